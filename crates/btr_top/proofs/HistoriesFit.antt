-- If each history that serves a script has room, no line of a run finds the device full, no batch of a buffer that lanes share, and no
-- output of its last round.
use Rattle.std.specs.Prelude.{◌≡◌, ℕ, ◌+◌, ◌<◌, ◌≤◌, ◌==◌, Bool, true, false, List, [], ◌∷◌, ◌++◌, length, slice_index_or, cond, None}
use Rattle.std.specs.List.{AllByRecursion}
use Rattle.std.proofs.Common.{zero, suc, refl, ap, ◌∙◌, arith, inl, inr}
use Rattle.std.proofs.lemmas.Bool.{cases_eq, eq-eqb}
use Rattle.btr_hist.specs.declared.entry.Entry.{Entry}
use Rattle.btr_hist.specs.Legal.{Follows}
use Rattle.btr_gate.specs.Numbers.{one, total, times, given}
use Rattle.btr_gate.specs.Prefixes.{StartsWith}
use Rattle.btr_jobs.specs.States.{StoreState, LogState}
use Rattle.btr_load.proofs.TotalLemmas.{total_append}
use Rattle.btr_text.specs.declared.script.ScriptLine.{ScriptLine}
use Rattle.btr_text.specs.declared.reply.LineReply.{LineReply}
use Rattle.btr_live.specs.OneHistory.{of_lane, lanes_of}
use Rattle.btr_store.specs.Completes.{IsBenign}
use Rattle.btr_store.specs.declared.status.Status.{Status}
use Rattle.btr_store.specs.Status.{greater}
use Rattle.btr_store.specs.Replies.{greatest_of_replies, status_of_reply, status_of_replies}
use Rattle.btr_top.specs.declared.live.FeedKind.{FeedKind}
use Rattle.btr_top.specs.Room.{Purpose, OfRound, has_line, has_landing, Service, HasRoomForHistories}
use Rattle.btr_top.proofs.BenignStatuses.{benign_greater}
use Rattle.btr_top.proofs.ServiceLemmas.{counted, lines_had, landings_had, up_to, up_to_least, up_to_sum, Served, served_append, never_full}
use Rattle.btr_top.proofs.LaneServes.{AreBenign, Refusal}
use Rattle.btr_top.proofs.RoundServes.{RoundServes, landing_here, landing_elsewhere}
use Rattle.btr_top.proofs.PlaceLemmas.{sum_to, sum_least, sum_more, sum_none, sum_same, sum_both, sum_lists, sum_lanes, places_from, places_once, places_of}

-- ---- replies of lanes

-- What holds of the replies of each lane holds of all.
all_lanes : (lanes : List ℕ) (all : List LineReply) → length all ≤ length lanes → ((k : ℕ) → AreBenign (of_lane k lanes all)) → AreBenign all
all_lanes lanes [] each benign = tt
all_lanes [] (reply ∷ all) each benign = absurd (omega (arith, each))
all_lanes (lane ∷ lanes) (reply ∷ all) each benign =
    (first (lane == lane) (eq-eqb lane lane refl) (benign lane), all_lanes lanes all (omega (arith, each)) (λ k. later k (lane == k) (benign k)))
  where
    first : (b : Bool) → b ≡ true → AreBenign (cond b (reply ∷ of_lane lane lanes all) (of_lane lane lanes all)) → IsBenign (status_of_reply reply)
    first true is benign_here = benign_here.0
    first false is benign_here = absurd (cc)

    later : (k : ℕ) (b : Bool) → AreBenign (cond b (reply ∷ of_lane k lanes all) (of_lane k lanes all)) → AreBenign (of_lane k lanes all)
    later k true benign_here = benign_here.1
    later k false benign_here = benign_here

greatest_benign : (s : Status) (all : List LineReply) → IsBenign s → AreBenign all → IsBenign (greatest_of_replies s all)
greatest_benign s [] benign each = benign
greatest_benign s (reply ∷ all) benign each = greatest_benign (greater s (status_of_reply reply)) all (benign_greater s (status_of_reply reply) benign each.0) each.1

lanes_count : (script : List ScriptLine) → length (lanes_of script) ≡ length script
lanes_count [] = refl
lanes_count (line ∷ script) = let rest = lanes_count script in omega (arith, rest)

-- So they ask for benign statuses together.
pub replies_benign : (script : List ScriptLine) (all : List LineReply) → length all ≡ length script → ((k : ℕ) → AreBenign (of_lane k (lanes_of script) all)) → IsBenign (status_of_replies all)
replies_benign script all each benign =
    greatest_benign _ all (inl refl) (all_lanes (lanes_of script) all (let n = lanes_count script in omega (arith, n, each)) benign)

-- ---- the services of many lanes

abbrev pub all_of : (ℕ → List Service) → ℕ → List Service
all_of each zero = []
all_of each (suc k) = each 0 ++ all_of (λ j. each (suc j)) k

pub all_sum : (f : Service → ℕ) (each : ℕ → List Service) (k : ℕ) → total f (all_of each k) ≡ sum_to (λ j. total f (each j)) k
all_sum f each zero = refl
all_sum f each (suc k) =
    let sum = total_append f (each 0) (all_of (λ j. each (suc j)) k) in
    let rest = all_sum f (λ j. each (suc j)) k in
    omega (arith, sum, rest)

all_sum_to : (f : Service → ℕ) (top : ℕ) (each : ℕ → List Service) (k : ℕ) → total f (up_to top (all_of each k)) ≡ sum_to (λ j. total f (up_to top (each j))) k
all_sum_to f top each zero = refl
all_sum_to f top each (suc k) =
    let sum = up_to_sum f top (each 0) (all_of (λ j. each (suc j)) k) in
    let rest = all_sum_to f top (λ j. each (suc j)) k in
    omega (arith, sum, rest)

module _ (feeds : FeedKind) (rounds : ℕ) (script : List ScriptLine) (start : StoreState) (log : LogState) (running : start.stopped ≡ false) (sound : log.failed ≡ None) (follows : Follows log.history) (begins : StartsWith log.history start.history) where
  abbrev low : List Entry
  low = start.history

  abbrev Here : Service → Type 0
  Here s = Served feeds rounds script low log.history s

  abbrev Refused : List Entry → Entry → Purpose → Type 0
  Refused p e purpose = Refusal feeds rounds script start log running sound follows low p e purpose

  pub all_here : (each : ℕ → List Service) → ((j : ℕ) → AllByRecursion Here (each j)) → (k : ℕ) → AllByRecursion Here (all_of each k)
  all_here each are zero = tt
  all_here each are (suc k) = served_append feeds rounds script low log.history (each 0) (all_of (λ j. each (suc j)) k) (are 0) (all_here (λ j. each (suc j)) (λ j. are (suc j)) k)

  -- What the rounds beside the lanes added.
  pub record PartiesServe (own : List ℕ) : Type 0 where
    pub services : List Service
    pub numbers : (n : ℕ) → counted n services ≡ times n own
    pub are : AllByRecursion Here services
    pub no_line : (k : ℕ) → lines_had k services ≡ 0
    pub landings : (r output : ℕ) → landings_had r output services ≤ 1
    pub not_last : (output : ℕ) → landings_had 0 output services ≡ 0

  -- Without rounds nothing is added.
  pub no_party : PartiesServe []
  no_party = record { services = []; numbers = λ n. refl; are = tt; no_line = λ k. refl; landings = λ r o. omega arith; not_last = λ o. refl }

  -- What the lane with a number added. `spare` is how often each line gave points to a buffer that lanes share.
  pub record LaneAdds (j : ℕ) (own : List ℕ) : Type 0 where
    pub services : List Service
    pub spare : ℕ → ℕ
    pub numbers : (n : ℕ) → counted n services ≡ times n own
    pub are : AllByRecursion Here services
    pub lines : (k : ℕ) → lines_had k services + spare k ≤ times k (places_of j script)
    pub landings : (r output : ℕ) → landings_had r output services ≡ 0

  -- What the buffers that lanes share added, of points that lines gave so often: `added` is how often each number.
  pub record BatchesAdd (spare added : ℕ → ℕ) : Type 0 where
    pub services : List Service
    pub numbers : (n : ℕ) → counted n services ≡ added n
    pub are : AllByRecursion Here services
    pub lines : (k : ℕ) → lines_had k services ≤ spare k
    pub landings : (r output : ℕ) → landings_had r output services ≡ 0

  -- Without such buffers nothing is added.
  pub no_batches : (spare : ℕ → ℕ) → BatchesAdd spare (λ n. 0)
  no_batches spare = record { services = []; numbers = λ n. refl; are = tt; lines = λ k. omega arith; landings = λ r o. refl }

  module _ (room : HasRoomForHistories feeds rounds start script) (mine : List (List ℕ)) (lane : (j : ℕ) → LaneAdds j (slice_index_or mine j [])) (count : ℕ) (enough : length mine ≤ count) (batched : ℕ → ℕ) (beside lastly : List ℕ) (batches : BatchesAdd (λ k. sum_to (λ j. (lane j).spare k) count) batched) (Calm : Type 0) (parties : PartiesServe beside) (last : RoundServes feeds rounds script start log running sound follows low 0 (λ o. 1) Calm lastly) (once : (n : ℕ) → total (times n) mine + batched n + times n beside + times n lastly ≡ given (length low) (length log.history) n) where
    abbrev lane_services : ℕ → List Service
    lane_services j = (lane j).services

    abbrev spared : ℕ → ℕ
    spared k = sum_to (λ j. (lane j).spare k) count

    abbrev rest : List Service
    rest = parties.services ++ last.services

    abbrev more : List Service
    more = batches.services ++ rest

    abbrev services : List Service
    services = all_of lane_services count ++ more

    numbers : (n : ℕ) → counted n services ≡ given (length low) (length log.history) n
    numbers n =
        let f : Service → ℕ = λ (s : Service). one (s.number == n) in
        let whole = total_append f (all_of lane_services count) more in
        let of_more = total_append f batches.services rest in
        let part = total_append f parties.services last.services in
        let sum = all_sum f lane_services count in
        let same = sum_same (λ j. total f (lane_services j)) (λ j. times n (slice_index_or mine j [])) (λ j. (lane j).numbers n) count in
        let lists = sum_lists (times n) refl mine count enough in
        let here = batches.numbers n in
        let first = parties.numbers n in
        let second = last.numbers n in
        let all_once = once n in
        omega (arith, whole, of_more, part, sum, same, lists, here, first, second, all_once)

    are : AllByRecursion Here services
    are = served_append feeds rounds script low log.history (all_of lane_services count) more (all_here lane_services (λ j. (lane j).are) count)
        (served_append feeds rounds script low log.history batches.services rest batches.are
        (served_append feeds rounds script low log.history parties.services last.services parties.are last.are))

    -- What the device was full for.
    line_never : (p : List Entry) (e : Entry) (purpose : Purpose) → Refused p e purpose → ((k : ℕ) → has_line k purpose + lines_had k (up_to (length p) services) ≤ 1) → ((r o : ℕ) → has_landing r o purpose + landings_had r o (up_to (length p) services) ≤ 1) → ⊥
    line_never p e purpose refusal lines landings =
        never_full feeds rounds script low log.history follows services numbers are start p e purpose refusal.need refusal.left refl room
        record {
          starts = refusal.starts;
          since = refusal.since;
          accepted = refusal.accepted;
          is_for = refusal.is_for;
          new_line = λ k. let l = lines k in omega (arith, l);
          new_landing = λ r o. let l = landings r o in omega (arith, l);
        }
        refusal.full

    -- The lines that the services have.
    lanes_once : (k : ℕ) → sum_to (λ j. times k (places_of j script)) count ≤ 1
    lanes_once k =
        let most = sum_lanes (λ m. one (m == k)) (lanes_of script) (places_from 0 script) count in
        let once_each = places_once k 0 script in
        omega (arith, most, once_each)

    rest_no_line : (k : ℕ) → lines_had k rest ≡ 0
    rest_no_line k =
        let sum = total_append (λ (s : Service). has_line k s.purpose) parties.services last.services in
        let first = parties.no_line k in
        let second = last.no_line k in
        omega (arith, sum, first, second)

    -- The lines of all lanes, with those that gave points to buffers, are no more than there are, with one line more in a lane.
    lanes_least : (k x i top : ℕ) → i < count → x + lines_had k (up_to top (lane_services i)) + (lane i).spare k ≤ times k (places_of i script) → x + lines_had k (up_to top (all_of lane_services count)) + spared k ≤ 1
    lanes_least k x i top inside few =
        let f : Service → ℕ = λ (s : Service). has_line k s.purpose in
        let lanes_sum = all_sum_to f top lane_services count in
        let both = sum_both (λ j. total f (up_to top (lane_services j)) + (lane j).spare k) (λ j. total f (up_to top (lane_services j))) (λ j. (lane j).spare k) (λ j. refl) count in
        let most = sum_more (λ j. total f (up_to top (lane_services j)) + (lane j).spare k) (λ j. times k (places_of j script)) x count i inside (omega (arith, few))
        (λ j. let a = up_to_least f top (lane_services j) in let b = (lane j).lines k in omega (arith, a, b)) in
        let bound = lanes_once k in
        omega (arith, lanes_sum, both, most, bound)

    lanes_all : (k top : ℕ) → lines_had k (up_to top (all_of lane_services count)) + spared k ≤ 1
    lanes_all k top =
        let f : Service → ℕ = λ (s : Service). has_line k s.purpose in
        let lanes_sum = all_sum_to f top lane_services count in
        let both = sum_both (λ j. total f (up_to top (lane_services j)) + (lane j).spare k) (λ j. total f (up_to top (lane_services j))) (λ j. (lane j).spare k) (λ j. refl) count in
        let most = sum_least (λ j. total f (up_to top (lane_services j)) + (lane j).spare k) (λ j. times k (places_of j script))
        (λ j. let a = up_to_least f top (lane_services j) in let b = (lane j).lines k in omega (arith, a, b)) count in
        let bound = lanes_once k in
        omega (arith, lanes_sum, both, most, bound)

    -- The lines of all that was there up to a number.
    lines_up : (k top : ℕ) → lines_had k (up_to top services) ≤ lines_had k (up_to top (all_of lane_services count)) + lines_had k batches.services
    lines_up k top =
        let f : Service → ℕ = λ (s : Service). has_line k s.purpose in
        let whole = up_to_sum f top (all_of lane_services count) more in
        let of_more = up_to_sum f top batches.services rest in
        let part = up_to_least f top batches.services in
        let tail = up_to_least f top rest in
        let no_tail = rest_no_line k in
        omega (arith, whole, of_more, part, tail, no_tail)

    rest_landings : (r o : ℕ) → landings_had r o rest ≤ 1
    rest_landings r o =
        let sum = total_append (λ (s : Service). has_landing r o s.purpose) parties.services last.services in
        elim (cases_eq r 0) [
          | inl zeroth ↦
              let first : landings_had r o parties.services ≡ 0 = ap (λ x. landings_had x o parties.services) zeroth ∙ parties.not_last o in
              let second : landings_had r o last.services ≡ landings_had 0 o last.services = ap (λ x. landings_had x o last.services) zeroth in
              let bound = last.landings o in
              omega (arith, sum, first, second, bound)
          | inr differs ↦
              let first = parties.landings r o in
              let second = last.no_other r o differs in
              omega (arith, sum, first, second)
        ]

    lanes_no_landing : (r o top : ℕ) → landings_had r o (up_to top (all_of lane_services count)) ≡ 0
    lanes_no_landing r o top =
        let f : Service → ℕ = λ (s : Service). has_landing r o s.purpose in
        let part = up_to_least f top (all_of lane_services count) in
        let sum = all_sum f lane_services count in
        let none = sum_none (λ j. total f (lane_services j)) (λ j. (lane j).landings r o) count in
        omega (arith, part, sum, none)

    -- The landings of all that was there up to a number.
    landings_up : (r o top : ℕ) → landings_had r o (up_to top services) ≤ landings_had r o rest
    landings_up r o top =
        let f : Service → ℕ = λ (s : Service). has_landing r o s.purpose in
        let whole = up_to_sum f top (all_of lane_services count) more in
        let of_more = up_to_sum f top batches.services rest in
        let part = up_to_least f top batches.services in
        let none = batches.landings r o in
        let tail = up_to_least f top rest in
        let no_lane = lanes_no_landing r o top in
        omega (arith, whole, of_more, part, none, tail, no_lane)

    no_landing : (p : List Entry) (purpose : Purpose) → ((r o : ℕ) → has_landing r o purpose ≡ 0) → (r o : ℕ) → has_landing r o purpose + landings_had r o (up_to (length p) services) ≤ 1
    no_landing p purpose none r o =
        let up = landings_up r o (length p) in
        let bound = rest_landings r o in
        let no = none r o in
        omega (arith, up, bound, no)

    -- No line of a lane found the device full.
    pub in_lane : (i : ℕ) → i < count → (p : List Entry) (e : Entry) (purpose : Purpose) → Refused p e purpose → ((r o : ℕ) → has_landing r o purpose ≡ 0) → ((k : ℕ) → has_line k purpose + lines_had k (up_to (length p) (lane_services i)) + (lane i).spare k ≤ times k (places_of i script)) → ⊥
    in_lane i inside p e purpose refusal none few =
        line_never p e purpose refusal
        (λ k.
        let up = lines_up k (length p) in
        let most = lanes_least k (has_line k purpose) i (length p) inside (few k) in
        let given_once = batches.lines k in
        omega (arith, up, most, given_once))
        (no_landing p purpose none)

    -- No batch of a buffer did.
    pub in_batch : (p : List Entry) (e : Entry) (purpose : Purpose) → Refused p e purpose → ((r o : ℕ) → has_landing r o purpose ≡ 0) → ((k : ℕ) → has_line k purpose + lines_had k batches.services ≤ spared k) → ⊥
    in_batch p e purpose refusal none few =
        line_never p e purpose refusal
        (λ k.
        let up = lines_up k (length p) in
        let most = lanes_all k (length p) in
        let here = few k in
        omega (arith, up, most, here))
        (no_landing p purpose none)

    in_last : (p : List Entry) (e : Entry) (output : ℕ) → Refused p e (OfRound 0 output) → ((o : ℕ) → one (output == o) + landings_had 0 o last.services ≤ 1) → ⊥
    in_last p e output refusal few =
        line_never p e (OfRound 0 output) refusal
        (λ k.
        let up = lines_up k (length p) in
        let most = lanes_all k (length p) in
        let given_once = batches.lines k in
        omega (arith, up, most, given_once))
        (λ r o.
        let up = landings_up r o (length p) in
        let sum = total_append (λ (s : Service). has_landing r o s.purpose) parties.services last.services in
        elim (cases_eq r 0) [
          | inl zeroth ↦
              let first : landings_had r o parties.services ≡ 0 = ap (λ x. landings_had x o parties.services) zeroth ∙ parties.not_last o in
              let second : landings_had r o last.services ≡ landings_had 0 o last.services = ap (λ x. landings_had x o last.services) zeroth in
              let own : has_landing r o (OfRound 0 output) ≡ one (output == o) = ap (λ x. has_landing x o (OfRound 0 output)) zeroth ∙ landing_here 0 output o in
              let bound = few o in
              omega (arith, up, sum, first, second, own, bound)
          | inr differs ↦
              let first = parties.landings r o in
              let second = last.no_other r o differs in
              let own = landing_elsewhere 0 r output o differs in
              omega (arith, up, sum, first, second, own)
        ])

    pub last_calm : Calm
    last_calm = last.calm (λ p e output refusal few. in_last p e output refusal few)
