-- What a checkpoint leaves of the images of an engine: at each moment, and after it.
use Rattle.std.specs.Prelude.{◌≡◌, ◌⊎◌, ℕ, ◌+◌, ◌*◌, ◌<◌, ◌≤◌, ◌^◌, true, false, List, [], ◌∷◌, ◌++◌, length, take, Option, Some, None, IfSome, IsFalse, Result, Ok, Err, is_err, OnOk, OnErr}
use Rattle.std.proofs.Common.{refl, sym, ◌∙◌, ap, subst, inl, inr, ⊎_elim, arith}
use Rattle.std.proofs.lemmas.Bool.{cases_lt}
use Rattle.btr_base.specs.declared.limits.TheConstants.{FIRST}
use Rattle.btr_tree.specs.Root.{TreeValue}
use Rattle.btr_disk.specs.declared.disk.Disk.{Ghosts}
use Rattle.btr_disk.specs.Bytes.{Image, SameBut}
use Rattle.btr_disk.specs.Causes.{Rose, CountedTimes, KeepsCounts}
use Rattle.btr_disk.specs.Gate.{gate_block}
use Rattle.btr_disk.specs.Images.{Only}
use Rattle.btr_disk.specs.Moments.{Leaves}
use Rattle.btr_disk.specs.Publish.{Published}
use Rattle.btr_disk.proofs.MomentLemmas.{begins, weakens, left_now}
use Rattle.btr_log.specs.declared.log.Log.{Log}
use Rattle.btr_log.specs.declared.append.AppendFault.{AppendFault}
use Rattle.btr_log.specs.declared.append.AppendFault.TheVariants.{Full, Fault, Stopped as AlreadyStopped}
use Rattle.btr_log.specs.Extents.{need, IsLog, first_gate}
use Rattle.btr_log.specs.Append as append
use Rattle.btr_log.specs.Log as log
use Rattle.btr_log.specs.Head.{content_blocks}
use Rattle.btr_log.proofs.ExtentLemmas.{AtRest-IsLog}
use Rattle.btr_tree.specs.PageNodes.{Pages, nodes_in}
use Rattle.btr_pages.proofs.ReportedLemmas.{below-more}
use Rattle.btr_super.specs.declared.superblock.Super.{Super}
use Rattle.btr_super.specs.Super.{has_seal}
use Rattle.btr_super.specs.Choose.{IsChosen}
use Rattle.btr_super.specs.Replace.{IsFollowed, HasOnePrefix, IsReplacing}
use Rattle.btr_hist.specs.declared.entry.Entry.{Entry}
use Rattle.btr_roll.specs.Roll.{roll_bytes}
use Rattle.btr_engine.specs.declared.engine.Engine.{Engine}
use Rattle.btr_engine.specs.declared.step.StepFault.{StepFault}
use Rattle.btr_engine.specs.declared.step.StepFault.TheVariants.{Stopped, Sealed, DeviceFull, DeviceFault}
use Rattle.btr_streams.specs.Board.{Versions, Kept, IsBoardOf}
use Rattle.btr_streams.specs.Rolling.{roll_of, rolled}
use Rattle.btr_engine.specs.Body.{MayStandUnder, prefix_to, no_extents, needed_format, IsCheckpointOf, LeadTo}
use Rattle.btr_engine.specs.Roots.{IsRootOf}
use Rattle.btr_engine.specs.Holds.{HoldsHistoryTo, HoldsHistory}
use Rattle.btr_engine.specs.Stored.{AreStored}
use Rattle.btr_streams.specs.Board.{tree_at}
use Rattle.btr_streams.specs.Rolling.{HaveRoots}
use Rattle.btr_engine.specs.Engine.{log_of, device, board_of, is_home, blocks_of, entries_of, tail_of, room_of, super_of, is_stopped, is_sealed, synced_of, entries_at_open, IsAtRest, IsDurable, EngineLeaves, KeepsOpening}
use Rattle.btr_engine.specs.Mark.{body_of_roll, run_of_board, need_of_board, next_super, IsNamed, MayMark, CountsMark, StopsByMark, CheckpointCause, Marks}
use Rattle.btr_engine.proofs.RollBody.{need-body_of_roll, brings-roll, body-of-history}
use Rattle.btr_engine.proofs.EngineLemmas.{holds_in, take_whole}
use Rattle.btr_engine.proofs.BodyLemmas.{format-IsCheckpointOf}
use Rattle.btr_engine.proofs.HoldsLemmas.{HoldsTrees, no-seal, IsChosen-along, held, may_mark, starts-last, holds_as_before, holds_under, holds_marked}
use Rattle.btr_engine.proofs.Stepping.{same_at_home}
use Rattle.btr_engine.proofs.Settling.{marks_between}
use Rattle.btr_streams.proofs.RollingLemmas.{rolled-is}
use Rattle.btr_streams.proofs.StreamsLemmas.{has-streams}

-- ---- stored trees, below a later gate

if-some : {X : Type 0} (o : Option X) (P Q : X → Type 0) → ((x : X) → P x → Q x) → IfSome o P → IfSome o Q
if-some None P Q along is = is
if-some (Some x) P Q along is = along x is

stored-later : (pages : Pages) (gate later : ℕ) (streams : List Versions) → gate ≤ later → AreStored pages gate streams → AreStored pages later streams
stored-later pages gate later streams le stored = record {
  kept = stored.kept;
  below = λ block is. let lt = stored.below block is in omega (arith, lt, le);
  each = λ stream version. if-some (tree_at streams stream version) _ _
      (λ (t : TreeValue) is. below-more (nodes_in pages stream) gate later 10 FIRST t.node le is) (stored.each stream version);
}

-- ---- an append

module _ {D : Type 0} {disk : Ghosts D} where
  -- What an append of this run says of the moments between two logs, and of its result if there is too little room.
  pub record Appends (l after : Log D disk) (run : List ℕ) (answer : Result (Unit {0}) AppendFault) : Type 0 where
    pub full : IsFalse (log.is_log_stopped l) → append.IsTooLong l run → answer ≡ Err (Full (need (append.body_in_run run)) (log.log_room l))
    pub kept : log.KeepsBounds l after
    pub moments : disk.is_observable → (bodies : List (List ℕ)) → log.IsLogAtRest l bodies
        → log.LogLeaves l after (append.IsMoment (disk.contents (log.log_device l)) (log.log_tail l) bodies (append.body_in_run run))

  pub record FailsAppend (l after : Log D disk) (run : List ℕ) (fault : AppendFault) : Type 0 where
    pub appends : Appends l after run (Err fault)
    pub cause : append.AppendCause l after run fault

  pub record TakesAppend (l after : Log D disk) (run : List ℕ) : Type 0 where
    pub appends : Appends l after run (Ok tt)
    pub appended : append.IsAppended l after run
    pub written : disk.is_observable
        → Published (disk.contents (log.log_device l)) (4096 * (log.log_tail l + 1)) run (4096 * log.log_tail l) gate_block (disk.contents (log.log_device after))
    pub at_rest : disk.is_observable → (bodies : List (List ℕ)) → log.IsLogAtRest l bodies
        → log.IsLogAtRest after (bodies ++ append.body_in_run run ∷ [])

-- ---- images

-- The superblock names a checkpoint at this gate, with this gate after it, in a store of this many blocks and of this format.
pub record Names (blocks gate end format : ℕ) (next : Super) : Type 0 where
  pub same_format : next.format ≡ format
  pub same_blocks : next.blocks ≡ blocks
  pub side : next.side ≤ 1
  pub gate_is : next.checkpoint ≡ gate
  pub end_is : next.tail ≡ end

-- Two images agree from the first gate on.
abbrev pub AgreeBehind : Image → Image → Type 0
AgreeBehind old new = (k : ℕ) → 16384 ≤ k → new k ≡ old k

module _ (size : ℕ) (old : Image) (blocks tail : ℕ) (h : List Entry) (at : HoldsHistoryTo size old blocks tail h) (body : List ℕ) (is : IsCheckpointOf (held size old blocks tail h at) body) (format : ℕ) (same_format : is.format ≡ format) (may : MayMark at.super format) (unsealed : has_seal at.super ≡ false) (fits : tail + need body < blocks) where
  may_stand : MayStandUnder at.super.format body
  may_stand =
      let in_body = format-IsCheckpointOf (held size old blocks tail h at) body is ∙ same_format in
      ⊎_elim (λ same. inl (omega (arith, in_body, same))) (λ sealed. inr (in_body ∙ sealed)) may

  -- An image at a moment of the append holds the history.
  while_appending : (c : Image) → append.IsMoment old tail at.bodies body c → HoldsHistory size c h
  while_appending c moment =
      ⊎_elim
      (λ log. record {
        blocks = blocks;
        tail = tail;
        holds = holds_as_before size old blocks tail h at c moment.below log;
      })
      (λ log. record {
        blocks = blocks;
        tail = tail + need body;
        holds = holds_marked size old blocks tail h at body is may_stand unsealed fits c moment.below log;
      })
      moment.log

  module _ (mid : Image) (below : (k : ℕ) → k < 4096 * tail → mid k ≡ old k) (log : IsLog mid first_gate (at.bodies ++ body ∷ [])) (next : Super) (names : Names blocks tail (tail + need body) format next) where
    -- The history after the append.
    abbrev middle : HoldsHistoryTo size mid blocks (tail + need body) h
    middle = holds_marked size old blocks tail h at body is may_stand unsealed fits mid below log

    -- The old superblock is still chosen.
    middle_chosen : IsChosen size mid at.super
    middle_chosen = middle.chosen

    -- The history under the next superblock.
    abbrev under : (c : Image) → AgreeBehind mid c → IsChosen size c next → HoldsHistoryTo size c blocks (tail + need body) h
    under c agree chosen =
        holds_under size mid blocks (tail + need body) h middle c next agree chosen names.same_blocks
        (omega (arith, names.same_format, (marks_between at.super format at.chosen.stored.spelled.keeps.known_format.1 may).0))
        (starts-last IsRootOf at.bodies (held size old blocks tail h at) body next.checkpoint next.tail at.leads.lead is names.gate_is names.end_is)
        (λ _. names.end_is)

    -- An image at a moment of the replacement holds the history.
    while_replacing : (images : Image → Type 0) → Only mid images → (c : Image) → IsReplacing size images at.super next c → HoldsHistory size c h
    while_replacing images only c moment =
        let base = moment.elsewhere in
        let side : next.side ≤ 1 = names.side in
        let agree : AgreeBehind mid c = λ k low. base.2.above k (omega (arith, low, side)) ∙ only.each base.0 base.1 k in
        ⊎_elim
        (λ chosen. record {
          blocks = blocks;
          tail = tail + need body;
          holds = holds_under size mid blocks (tail + need body) h middle c at.super agree chosen at.same_blocks (omega arith) middle.starts (no-seal at.super unsealed);
        })
        (λ chosen. record {
          blocks = blocks;
          tail = tail + need body;
          holds = under c agree chosen;
        })
        moment.either

    -- The image after it holds the history under the next superblock, with the same trees.
    under_next : (new : Image) → AgreeBehind mid new → IsChosen size new next → (streams : List Versions) → AreStored at.leads.pages tail streams → HaveRoots at.leads.roots streams → HoldsTrees size new blocks (tail + need body) h next streams
    under_next new agree chosen streams stored have =
        (under new agree chosen, refl, stored-later at.leads.pages tail (tail + need body) streams (omega arith) stored, have)

    -- The next superblock names a checkpoint of the whole history.
    named : (new : Image) → AgreeBehind mid new → IsChosen size new next → IsNamed size new blocks (tail + need body) h format
    named new agree chosen = record {
      holds = under new agree chosen;
      in_format = names.same_format;
      before = at.bodies;
      body = body;
      last = refl;
      leads = subst (λ n. LeadTo IsRootOf no_extents at.bodies (prefix_to n h at.leads.roots at.leads.pages)) (sym names.gate_is) at.leads.lead;
      is = record { format = is.format; least = is.least; most = is.most; room = is.room; bytes = is.bytes };
      same_format = same_format;
      from_tail = names.end_is;
    }

-- ---- an engine

module _ {D : Type 0} {disk : Ghosts D} (old : Engine D disk) (format : ℕ) (run : List ℕ) (bytes : run ≡ run_of_board format (board_of old)) where
  -- The blocks that the run needs are those of the board.
  pub needed : need (append.body_in_run run) ≡ need_of_board format (board_of old)
  needed =
      ap need (brings-roll format (entries_of old) (rolled (board_of old)) run bytes) ∙ need-body_of_roll format (entries_of old) (rolled (board_of old))

  -- They are two or more: the content has a head.
  pub two_blocks : 2 ≤ need (append.body_in_run run)
  two_blocks = omega (arith, needed)

  -- The run of a log that has too little room for it is always refused with these numbers.
  abbrev pub full : Result (Unit {0}) AppendFault
  full = Err (Full (need (append.body_in_run run)) (room_of old))

  abbrev pub AnswersFull : Result (Unit {0}) AppendFault → Type 0
  AnswersFull answer = IsFalse (is_stopped old) → append.IsTooLong (log_of old) run → answer ≡ full

  -- An append with another result had room.
  pub fits_unless_full : (answer : Result (Unit {0}) AppendFault) → IsFalse (is_stopped old) → AnswersFull answer → (answer ≡ full → ⊥) → need_of_board format (board_of old) ≤ room_of old
  fits_unless_full answer runs answers_full other =
      let size : need (append.body_in_run run) ≡ need_of_board format (board_of old) = needed in
      ⊎_elim (λ short. absurd (other (answers_full runs (omega (arith, short, size))))) (λ le. le) (cases_lt (room_of old) (need_of_board format (board_of old)))

  -- Why an append that fails makes no checkpoint.
  pub refused : (new : Engine D disk) (fault : AppendFault) (answer : StepFault) → is_home old ≡ true → is_home new ≡ true → IsFalse (is_stopped old) → AnswersFull (Err fault) → append.AppendCause (log_of old) (log_of new) run fault → board_of new ≡ board_of old → new.opened_with ≡ old.opened_with → new.chosen ≡ old.chosen → new.synced ≡ old.synced → ((n left : ℕ) → fault ≡ Full n left → answer ≡ DeviceFull n left) → (fault ≡ Fault → answer ≡ DeviceFault) → CheckpointCause format old new answer
  refused new (Full n room) answer before_home after_home runs answers_full cause same began chosen synced is_full is_fault =
      let short : room < n = omega (arith, cause.1, cause.2, cause.3) in
      subst (CheckpointCause format old new) (sym (is_full n room refl)) (runs, cause.2 ∙ needed, cause.3, short, same_at_home new old after_home before_home (record { log = cause.4; board = same; entries = began; chosen = chosen; synced = synced }))
  refused new Fault answer before_home after_home runs answers_full cause same began chosen synced is_full is_fault =
      let fits = fits_unless_full (Err Fault) runs answers_full (λ no. absurd (cc)) in
      subst (CheckpointCause format old new) (sym (is_fault refl)) (
        runs,
        fits,
        record { called = cause.1.called; at_most = omega (arith, cause.1.at_most); rose = cause.1.rose; stopped = cause.1.stopped; board = same; chosen = chosen },
      )
  refused new (AlreadyStopped n) answer before_home after_home runs answers_full cause same began chosen synced is_full is_fault =
      let stopped = cause.0 in absurd (cc)

  module _ (fits : need_of_board format (board_of old) ≤ room_of old) where
    -- A block is left after it for the next gate.
    inside : tail_of old + need (append.body_in_run run) < blocks_of old
    inside =
        let below : tail_of old < blocks_of old = (log_of old).tail_inside in
        omega (arith, fits, needed, below)

    module _ (may : MayMark (super_of old) format) (unsealed : is_sealed old ≡ false) (h : List Entry) (rest : IsAtRest h old) where
      abbrev size : ℕ
      size = disk.size (device old)

      abbrev contents : Image
      contents = disk.contents (device old)

      -- The body of the run is that of a checkpoint after the history.
      is-checkpoint : IsCheckpointOf (held size contents (blocks_of old) (tail_of old) h rest.holds) (append.body_in_run run)
      is-checkpoint =
          let roots = rest.holds.leads.roots in
          let same : rolled (board_of old) ≡ roll_of h roots = rolled-is h roots (board_of old) (has-streams h (board_of old) rest.of) rest.roots in
          let low : content_blocks (length (roll_bytes format (rolled (board_of old)))) < 2 ^ 64 = omega (arith, fits, (log_of old).addressable) in
          let between = marks_between (super_of old) format old.followable.format_to may in
          let least : needed_format h ≤ (super_of old).format = subst (λ (s : Super). needed_format h ≤ s.format) rest.under (may_mark size contents (blocks_of old) (tail_of old) h rest.holds) in
          record {
            format = format;
            least = omega (arith, least, between.0);
            most = between.1;
            room = subst (λ r. content_blocks (length (roll_bytes format r)) < 2 ^ 64) same low;
            bytes = brings-roll format (entries_of old) (rolled (board_of old)) run bytes ∙ ap (λ n. body_of_roll format n (rolled (board_of old))) rest.of.entries ∙ ap (body_of_roll format (length h)) same ∙ body-of-history format h roots;
          }

      its-format : is-checkpoint.format ≡ format
      unfolding is-checkpoint
      its-format = refl

      -- So it is of the superblock that is chosen.
      its-may : MayMark rest.holds.super format
      its-may = subst (λ s. MayMark s format) (sym rest.under) may

      its-unsealed : has_seal rest.holds.super ≡ false
      its-unsealed = ap has_seal rest.under ∙ unsealed

      -- Each moment of the append leaves the history.
      pub appending : (after : Log D disk) → log.LogLeaves (log_of old) after (append.IsMoment contents (tail_of old) rest.holds.bodies (append.body_in_run run)) → log.LogLeaves (log_of old) after (λ c. HoldsHistory size c h)
      appending after leaves =
          weakens disk.calls disk.images_since (device old) (log.log_device after) (append.IsMoment contents (tail_of old) rest.holds.bodies (append.body_in_run run)) (λ c. HoldsHistory size c h)
          (while_appending size contents (blocks_of old) (tail_of old) h rest.holds (append.body_in_run run) is-checkpoint format its-format its-may its-unsealed inside) leaves

      module _ (after : Log D disk) (kept : log.KeepsBounds (log_of old) after) (tail : log.log_tail after ≡ tail_of old + need (append.body_in_run run)) (written : Published contents (4096 * (tail_of old + 1)) run (4096 * tail_of old) gate_block (disk.contents (log.log_device after))) (rests : log.IsLogAtRest after (rest.holds.bodies ++ append.body_in_run run ∷ [])) (next : Super) (is_next : next ≡ next_super (super_of old) (tail_of old) (log.log_tail after) format) where
        abbrev mid : Image
        mid = disk.contents (log.log_device after)

        below : (k : ℕ) → k < 4096 * tail_of old → mid k ≡ contents k
        below k lt = written.elsewhere k (λ le. absurd (omega (arith, lt, le))) (λ le. absurd (omega (arith, lt, le)))

        its_log : IsLog mid first_gate (rest.holds.bodies ++ append.body_in_run run ∷ [])
        its_log = AtRest-IsLog mid (disk.images_now (log.log_device after)) (log.log_tail after) (rest.holds.bodies ++ append.body_in_run run ∷ []) rests

        names : Names (blocks_of old) (tail_of old) (tail_of old + need (append.body_in_run run)) format next
        names = record {
          same_format = ap (λ (s : Super). s.format) is_next;
          same_blocks = ap (λ (s : Super). s.blocks) is_next ∙ old.same_blocks;
          side = omega (arith, ap (λ (s : Super). s.side) is_next);
          gate_is = ap (λ (s : Super). s.checkpoint) is_next;
          end_is = ap (λ (s : Super). s.tail) is_next ∙ tail;
        }

        same_size : disk.size (log.log_device after) ≡ size
        same_size = kept.device_kept.same_size

        -- The superblock that is chosen before the replacement is on the other side, and has a lesser number.
        pub followed : IsFollowed (disk.size (log.log_device after)) mid (super_of old) next
        followed =
            let chosen : IsChosen size mid rest.holds.super = middle_chosen size contents (blocks_of old) (tail_of old) h rest.holds (append.body_in_run run) is-checkpoint format its-format its-may its-unsealed inside mid below its_log next names in
            record {
              chosen = subst (λ s. IsChosen (disk.size (log.log_device after)) mid s) rest.under (subst (λ n. IsChosen n mid rest.holds.super) (sym same_size) chosen);
              other = ap (λ (s : Super). s.side) is_next;
              later = omega (arith, ap (λ (s : Super). s.seq) is_next);
            }

        -- A crash leaves one prefix.
        pub one_prefix : HasOnePrefix mid (disk.images_now (log.log_device after))
        one_prefix c left k low = rests.only.each c left k

        -- Each moment of the replacement leaves the history.
        pub replacing : (new : D) → Leaves disk.calls disk.images_since (log.log_device after) new (IsReplacing (disk.size (log.log_device after)) (disk.images_now (log.log_device after)) (super_of old) next) → Leaves disk.calls disk.images_since (log.log_device after) new (λ c. HoldsHistory size c h)
        replacing new leaves =
            weakens disk.calls disk.images_since (log.log_device after) new (IsReplacing (disk.size (log.log_device after)) (disk.images_now (log.log_device after)) (super_of old) next) (λ c. HoldsHistory size c h)
            (λ c moment. while_replacing size contents (blocks_of old) (tail_of old) h rest.holds (append.body_in_run run) is-checkpoint format its-format its-may its-unsealed inside mid below its_log next names (disk.images_now (log.log_device after)) rests.only c
            (subst (λ s. IsReplacing size (disk.images_now (log.log_device after)) s next c) (sym rest.under) (subst (λ n. IsReplacing n (disk.images_now (log.log_device after)) (super_of old) next c) same_size moment)))
            leaves

        module _ (d : D) (sized : disk.size d ≡ disk.size (log.log_device after)) (but : SameBut (8192 * next.side) 8192 mid (disk.contents d)) (chosen : IsChosen (disk.size (log.log_device after)) (disk.contents d) next) where
          abbrev now : Image
          now = disk.contents d

          agree : AgreeBehind mid now
          agree k low =
              let side : next.side ≤ 1 = names.side in
              but.above k (omega (arith, low, side))

          chosen_now : IsChosen size now next
          chosen_now = subst (λ n. IsChosen n now next) same_size chosen

          same_size_now : size ≡ disk.size d
          same_size_now = sym same_size ∙ sym sized

          -- The engine is at rest after it.
          pub at_rest : (new : Engine D disk) → device new ≡ d → blocks_of new ≡ blocks_of old → tail_of new ≡ log.log_tail after → board_of new ≡ board_of old → super_of new ≡ next → Only now (disk.images_now d) → IsAtRest h new
          at_rest new at blocked tailed same is only =
              let end = tail_of old + need (append.body_in_run run) in
              let streams = (board_of new).streams in
              let back : (board_of old).streams ≡ streams = ap (λ (b : Kept). b.streams) (sym same) in
              let stored = subst (AreStored rest.holds.leads.pages (tail_of old)) back rest.stored in
              let have = subst (HaveRoots rest.holds.leads.roots) back rest.roots in
              let first : HoldsTrees size now (blocks_of old) end h next streams = under_next size contents (blocks_of old) (tail_of old) h rest.holds (append.body_in_run run) is-checkpoint format its-format its-may its-unsealed inside mid below its_log next names now agree chosen_now streams stored have in
              let second : HoldsTrees (disk.size d) now (blocks_of old) end h next streams = subst (λ n. HoldsTrees n now (blocks_of old) end h next streams) same_size_now first in
              let third = subst (λ x. HoldsTrees (disk.size x) (disk.contents x) (blocks_of old) end h next streams) (sym at) second in
              let fourth = subst (λ n. HoldsTrees (disk.size (device new)) (disk.contents (device new)) n end h next streams) (sym blocked) third in
              let fifth = subst (λ n. HoldsTrees (disk.size (device new)) (disk.contents (device new)) (blocks_of new) n h next streams) (sym tail ∙ sym tailed) fourth in
              record {
                of = subst (IsBoardOf h) (sym same) rest.of;
                holds = fifth.0;
                under = fifth.1 ∙ sym is;
                stored = fifth.2;
                roots = fifth.3;
                only = subst (λ x. Only (disk.contents x) (disk.images_now x)) (sym at) only;
              }

          -- Each image then names the checkpoint.
          pub named_in : (blocks end : ℕ) → blocks ≡ blocks_of old → end ≡ log.log_tail after → Only now (disk.images_now d) → (c : Image) → disk.images_now d c → IsNamed (disk.size d) c blocks end h format
          named_in blocks end blocked tailed only c left =
              let same = only.each c left in
              let first : IsNamed size c (blocks_of old) (tail_of old + need (append.body_in_run run)) h format = named size contents (blocks_of old) (tail_of old) h rest.holds (append.body_in_run run) is-checkpoint format its-format its-may its-unsealed inside mid below its_log next names c (λ k low. same k ∙ agree k low) (IsChosen-along size now c next (λ k low. same k) chosen_now) in
              let second = subst (λ n. IsNamed n c (blocks_of old) (tail_of old + need (append.body_in_run run)) h format) same_size_now first in
              let third = subst (λ n. IsNamed (disk.size d) c n (tail_of old + need (append.body_in_run run)) h format) (sym blocked) second in
              subst (λ n. IsNamed (disk.size d) c blocks n h format) (sym tail ∙ sym tailed) third

-- ---- what is durable

-- No call of the device was made. `only_now` is its law.
pub nothing_leaves : {D : Type 0} {disk : Ghosts D} (h : List Entry) (engine : Engine D disk) → ((c : Image) → disk.images_since (device engine) (disk.calls (device engine)) c → disk.images_now (device engine) c) → IsAtRest h engine → EngineLeaves engine engine (λ c. HoldsHistory (disk.size (device engine)) c h)
nothing_leaves {D} {disk} h engine only_now rest =
    begins disk.calls disk.images_since (device engine) (λ c. HoldsHistory (disk.size (device engine)) c h) (λ c now. holds_in h engine rest c (rest.only.each c (only_now c now)))

-- A checkpoint that changed nothing.
pub marks_nothing : {D : Type 0} {disk : Ghosts D} (format : ℕ) (engine : Engine D disk) (fault : StepFault) → is_home engine ≡ true → CheckpointCause format engine engine fault → (is_stopped engine ≡ true → fault ≡ Stopped (entries_of engine)) → (is_stopped engine ≡ false → is_sealed engine ≡ true → fault ≡ Sealed) → (disk.is_observable → (c : Image) → disk.images_since (device engine) (disk.calls (device engine)) c → disk.images_now (device engine) c) → Marks format engine engine (Err fault)
marks_nothing format engine fault home cause stopped sealed only_now = record {
  home = home;
  stopped = λ is. record { returned = ap Err (stopped is); same = refl };
  sealed = λ runs is. record { returned = ap Err (sealed runs is); same = refl };
  cause = cause;
  marked = tt;
  kept = record {
    blocks = refl;
    entries = refl;
    synced = refl;
    device_kept = record { same_size = refl; more_calls = omega arith; more_faults = omega arith };
  };
  at_rest = λ seen h rest. tt;
  named = λ seen h rest. tt;
  moments = λ seen h rest. nothing_leaves h engine (only_now seen) rest;
  durable = λ seen h more calls entries rests so_far. so_far;
}

-- An append that fails made no call of the device, or the device failed.
pub fault_leaves : {D : Type 0} {disk : Ghosts D} (h : List Entry) (old : Engine D disk) (format : ℕ) (may : MayMark (super_of old) format) (unsealed : is_sealed old ≡ false) (run : List ℕ) (bytes : run ≡ run_of_board format (board_of old)) (after : Log D disk) (fault : AppendFault) → IsFalse (is_stopped old) → AnswersFull old format run bytes (Err fault) → append.AppendCause (log_of old) after run fault → ((c : Image) → disk.images_since (device old) (disk.calls (device old)) c → disk.images_now (device old) c) → (rest : IsAtRest h old) → log.LogLeaves (log_of old) after (append.IsMoment (disk.contents (device old)) (tail_of old) rest.holds.bodies (append.body_in_run run)) → log.LogLeaves (log_of old) after (λ c. HoldsHistory (disk.size (device old)) c h)
fault_leaves {D} {disk} h old format may unsealed run bytes after (Full n room) runs answers_full cause only_now rest leaves =
    subst (λ l. log.LogLeaves (log_of old) l (λ c. HoldsHistory (disk.size (device old)) c h)) (sym cause.4) (nothing_leaves h old only_now rest)
fault_leaves h old format may unsealed run bytes after Fault runs answers_full cause only_now rest leaves =
    appending old format run bytes (fits_unless_full old format run bytes (Err Fault) runs answers_full (λ no. absurd (cc))) may unsealed h rest after leaves
fault_leaves h old format may unsealed run bytes after (AlreadyStopped n) runs answers_full cause only_now rest leaves =
    let stopped = cause.0 in absurd (cc)

module _ {D : Type 0} {disk : Ghosts D} (h : List Entry) (old new : Engine D disk) where
  -- A crash between the two leaves the history.
  abbrev pub LeavesHistory : Type 0
  LeavesHistory = EngineLeaves old new (λ c. HoldsHistory (disk.size (device old)) c h)

  -- What is durable stays so.
  pub durable_through : (calls entries : ℕ) (more : List Entry) → IsFalse (is_stopped old) → KeepsOpening old new → board_of new ≡ board_of old → ((t : ℕ) (c : Image) → t ≤ disk.calls (device new) → disk.images_now (device new) c → disk.images_since (device new) t c) → LeavesHistory → IsDurable h calls entries old more → IsDurable h calls entries new more
  durable_through calls entries more runs kept same counts_now leaves so_far =
      let sized : disk.size (device old) ≡ disk.size (device new) = sym kept.device_kept.same_size in
      let none : more ≡ [] = so_far.runs runs in
      record {
        of = subst (IsBoardOf h) (sym same) so_far.of;
        past = omega (arith, so_far.past, leaves.later);
        longer = so_far.longer;
        one = so_far.one;
        runs = λ _. none;
        since = λ c left. ⊎_elim
            (λ past. let s = so_far.since c past in (s.0, s.1, subst (λ n. HoldsHistory n c (take s.0 (h ++ more))) sized s.2))
            (λ now. (
              length h,
              so_far.longer,
              subst (λ m. HoldsHistory (disk.size (device new)) c (take (length h) (h ++ m))) (sym none) (subst (HoldsHistory (disk.size (device new)) c) (sym (take_whole h)) (subst (λ n. HoldsHistory n c h) sized now)),
            ))
            (leaves.before calls c so_far.past left);
        now = λ c left. inl (subst (λ n. HoldsHistory n c h) sized (left_now disk.calls disk.images_since (device old) (device new) (λ d. HoldsHistory (disk.size (device old)) d h) (disk.images_now (device new)) counts_now leaves c left));
      }

-- ---- results of a replacement

-- The next superblock, with its numbers written otherwise.
pub next-is : (s next : Super) (gate tail before after format : ℕ) → next ≡ next_super s gate tail format → gate ≡ before → tail ≡ after → next ≡ next_super s before after format
next-is s next gate tail before after format is first second =
    is ∙ ap (λ n. next_super s n tail format) first ∙ ap (λ n. next_super s before n format) second

pub on_err : {T E P : Type 0} (r : Result T E) → is_err r ≡ true → OnErr r P → P
on_err (Ok x) failed p = absurd (cc)
on_err (Err e) failed p = p

pub on_ok : {T E P : Type 0} (r : Result T E) → is_err r ≡ false → OnOk r P → P
on_ok (Ok x) done p = p
on_ok (Err e) done p = absurd (cc)

-- Four calls, and then five or seven.
pub counted-both : (old mid new : ℕ) → CountedTimes 4 old mid → CountedTimes 5 mid new ⊎ CountedTimes 7 mid new → CountsMark old new
counted-both old mid new first second =
    ⊎_elim
    (λ five. inl (record { rose = omega (arith, first.rose, five.rose); exact = omega (arith, first.exact, five.exact) }))
    (λ seven. inr (record { rose = omega (arith, first.rose, seven.rose); exact = omega (arith, first.exact, seven.exact) }))
    second

module _ {D : Type 0} {disk : Ghosts D} (old new : Engine D disk) (after : Log D disk) (d : D) (kept : log.KeepsBounds (log_of old) after) (counts : KeepsCounts disk.size disk.calls disk.faults (log.log_device after) d) (is : device new ≡ d) where
  -- The opening is kept, and the counts do not fall.
  pub marking_keeps : blocks_of new ≡ log.log_blocks after → entries_at_open new ≡ entries_at_open old → synced_of new ≡ synced_of old → KeepsOpening old new
  marking_keeps blocks entries synced = record {
    blocks = blocks ∙ kept.blocks;
    entries = entries;
    synced = synced;
    device_kept = subst (λ x. KeepsCounts disk.size disk.calls disk.faults (device old) x) (sym is) (record {
      same_size = counts.same_size ∙ kept.device_kept.same_size;
      more_calls = omega (arith, kept.device_kept.more_calls, counts.more_calls);
      more_faults = omega (arith, kept.device_kept.more_faults, counts.more_faults);
    });
  }

-- The device failed in the replacement.
pub stops : {D : Type 0} {disk : Ghosts D} (old new : Engine D disk) (mid d : D) → CountedTimes 4 (disk.calls (device old)) (disk.calls mid) → disk.calls mid ≤ disk.calls d → disk.calls d ≤ disk.calls mid + 7 → disk.faults (device old) ≤ disk.faults mid → Rose (disk.faults mid) (disk.faults d) → device new ≡ d → is_stopped new ≡ true → board_of new ≡ board_of old → super_of new ≡ super_of old → StopsByMark old new
stops {D} {disk} old new mid d four later most faults rose is stopped same chosen =
    let calls : disk.calls (device new) ≡ disk.calls d = ap disk.calls is in
    let failed : disk.faults (device new) ≡ disk.faults d = ap disk.faults is in
    record {
      called = omega (arith, four.rose, later, calls);
      at_most = omega (arith, four.exact, most, calls);
      rose = omega (arith, faults, rose, failed);
      stopped = stopped;
      board = same;
      chosen = chosen;
    }
