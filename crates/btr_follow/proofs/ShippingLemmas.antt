-- Lemmas on shipping: the frame of a body, what was sent so far, and that the frames of a log are those of its history.
use Rattle.std.specs.Prelude.{◌≡◌, ℕ, ◌+◌, ◌*◌, ◌^◌, ◌<◌, ◌≤◌, ◌==◌, nat_le, ◌&&◌, Bool, true, false, List, [], ◌∷◌, ◌++◌, cond, length, map, take, drop, Result, Ok, Err, IfOk, IfErr, OnErr, ◌↔◌}
use Rattle.std.specs.List.{filter, flat_map}
use Rattle.std.proofs.Common.{refl, sym, ap, ◌∙◌, arith, subst, inl, inr, append_assoc, length-append, ⊎_elim}
use Rattle.std.proofs.lemmas.List.{append-nil, map-append, take_at, drop_at, take-append-drop}
use Rattle.std.proofs.lemmas.List.Concat.{flat_map-cons, flat_map-append}
use Rattle.std.proofs.lemmas.Nat.{from_be_bytes-to_be_bytes_4, from_be_bytes-to_be_bytes_8}
use Rattle.std.proofs.lemmas.Bool.{lt-leb}
use Rattle.btr_base.proofs.ListLemmas.{filter-append}
use Rattle.btr_disk.specs.declared.disk.Disk.{Ghosts}
use Rattle.btr_disk.specs.Bytes.{Image, Has}
use Rattle.btr_disk.specs.Gate.{zeros, IsOpen, IsClosed}
use Rattle.btr_disk.specs.Causes.{CausesFault}
use Rattle.btr_disk.specs.Images.{Only}
use Rattle.btr_disk.proofs.ByteLemmas.{Same-is}
use Rattle.btr_disk.proofs.MomentLemmas.{left_now, Only-kept}
use Rattle.btr_io.specs.declared.sink.Sink.{Ghosts as Sinking}
use Rattle.btr_io.specs.Bytes.{TookPart}
use Rattle.btr_log.specs.declared.head.Head.{Head}
use Rattle.btr_log.specs.declared.found.ExtentFault.{ExtentFault}
use Rattle.btr_log.specs.declared.found.ExtentFault.TheVariants as extent
use Rattle.btr_log.specs.Head.{head_bytes, head_at}
use Rattle.btr_log.specs.Extents.{need, IsBody, IsExtent, Extents, first_gate}
use Rattle.btr_log.specs.Found.{IsWholeExtent, IsDamagedExtent, FindCause}
use Rattle.btr_log.specs.Log.{FitsDevice}
use Rattle.btr_log.specs.Reads.{OnlyReads}
use Rattle.btr_log.proofs.HeadLemmas.{length-head_bytes, head_at-head_bytes}
use Rattle.btr_log.proofs.ExtentLemmas.{IsBody-one, Extents-le, Extents-one}
use Rattle.btr_log.proofs.FoundLemmas.{Extents-found}
use Rattle.btr_log.proofs.OnlyReading.{no-calls, OnlyReads-trans, same-bytes}
use Rattle.btr_hist.specs.declared.entry.Entry.{Entry}
use Rattle.btr_entry.specs.Grammar.{spelling}
use Rattle.btr_node.specs.declared.page.NodePage.{NodePage}
use Rattle.btr_node.specs.Page.{page_bytes}
use Rattle.btr_engine.specs.Body.{padding, body_of, Prefix, prefix_to, no_extents, with_extent, with_checkpoint, IsCheckpointOf, checkpoint_body, RootRule, LeadTo}
use Rattle.btr_engine.specs.Holds.{IsMarked, HoldsHistoryTo, HoldsHistory}
use Rattle.btr_engine.specs.Roots.{IsRootOf}
use Rattle.btr_roll.specs.Roll.{roll_bytes}
use Rattle.btr_streams.specs.Rolling.{roll_of}
use Rattle.btr_super.specs.declared.superblock.Super.{Super}
use Rattle.btr_super.specs.declared.choosing.ChooseFault.{ChooseFault}
use Rattle.btr_super.specs.declared.choosing.ChooseFault.TheVariants as chosen
use Rattle.btr_super.specs.Super.{IsSuper}
use Rattle.btr_super.specs.Choose.{HasNoSuper, IsChosen, IsDamagedSuper}
use Rattle.btr_super.proofs.ChoiceLemmas.{one_chosen, chosen_not_none, chosen_not_damaged}
use Rattle.btr_open.specs.Opening.{KeepsDisk}
use Rattle.btr_open.proofs.Synced.{counts-trans, unwritten_on}
use Rattle.btr_open.proofs.UnbrokenLemmas.{extent-unbroken}
use Rattle.btr_engine.proofs.BodyLemmas.{head_of, head_of_checkpoint, IsBody-body_of, FitsBody, FitsBody-of, least-IsBodyOf, least-IsCheckpointOf, LeadTo-gate, LeadTo-length}
use Rattle.btr_follow.specs.declared.frame.Frame.{Frame}
use Rattle.btr_follow.specs.declared.shipping.ShipFault.{ShipFault}
use Rattle.btr_follow.specs.declared.shipping.ShipFault.TheVariants.{NotAStore, Damaged, Fault, SinkFault, Want}
use Rattle.btr_follow.specs.Frames.{frame_bytes}
use Rattle.btr_follow.specs.Shipping.{frames_numbered, is_from, frames_from, head_in, frame_in, is_sent, frames_in, bytes_in}
use Rattle.btr_follow.specs.Shipping.{HasSentPart, BodyCause, fault_of_extent, IsAfterCheckpoint, IsShipStart, IsFirstDamage, IsLogDamage, IsShipDamage, IsNoDamage, ShipsHistory}
use Rattle.btr_follow.specs.Shipping.{CountsSent, CountsShipped}
use Rattle.btr_follow.specs.Shipping.{ChoiceCause, GateCause, ShipsTo, ShipsLog, StopsIn, ShipsStore, StopsStore, ShipsDurable, SendCause, ShipCause}

pub on-err : {T E : Type 0} (r : Result T E) (P : Type 0) → P → OnErr r P
on-err (Ok t) P p = tt
on-err (Err e) P p = p

-- What holds of each value, or of each error, of a result.
pub if-ok-map : {T E : Type 0} (r : Result T E) (P Q : T → Type 0) → ((t : T) → P t → Q t) → IfOk r P → IfOk r Q
if-ok-map (Ok t) P Q f p = f t p
if-ok-map (Err e) P Q f p = tt

pub on-err-map : {T E : Type 0} (r : Result T E) (P Q : Type 0) → (P → Q) → OnErr r P → OnErr r Q
on-err-map (Ok t) P Q f p = tt
on-err-map (Err e) P Q f p = f p

pub if-err-map : {T E : Type 0} (r : Result T E) (P Q : E → Type 0) → ((e : E) → P e → Q e) → IfErr r P → IfErr r Q
if-err-map (Ok t) P Q f p = tt
if-err-map (Err e) P Q f p = f e p

-- ---- one body

-- The head of a body is the one that it begins with.
pub head-in : (body : List ℕ) (head : Head) → IsBody body head → head_in body ≡ head
head-in body head is = ap head_at is.spells.spelling ∙ head_at-head_bytes head is.spells.is_head

pub sent-as : (from : ℕ) (body : List ℕ) (head : Head) → IsBody body head → is_sent from body ≡ (head.kind == 1 && nat_le from head.number)
sent-as from body head is = ap (λ (h : Head). h.kind == 1 && nat_le from h.number) (head-in body head is)

-- The frames of one body: its own, or none.
pub none-sent : (from : ℕ) (body : List ℕ) (t : Bool) → is_sent from body ≡ t → false ≡ t → frames_in from (body ∷ []) ≡ []
none-sent from body t is left =
    ap (λ (x : Bool). map frame_in (cond x (body ∷ []) [])) (is ∙ sym left)

pub one-sent : (from : ℕ) (body : List ℕ) (t : Bool) → is_sent from body ≡ t → true ≡ t → frames_in from (body ∷ []) ≡ frame_in body ∷ []
one-sent from body t is taken =
    ap (λ (x : Bool). map frame_in (cond x (body ∷ []) [])) (is ∙ sym taken)

pub none-bytes : (from : ℕ) (body : List ℕ) → frames_in from (body ∷ []) ≡ [] → bytes_in from (body ∷ []) ≡ []
none-bytes from body is = ap (λ (fs : List Frame). flat_map frame_bytes fs) is

pub one-bytes : (from : ℕ) (body : List ℕ) (head : Head) (entry : List ℕ) → IsBody body head → frames_in from (body ∷ []) ≡ frame_in body ∷ [] → entry ≡ take head.length (drop 64 body) → bytes_in from (body ∷ []) ≡ frame_bytes (record { number = head.number; bytes = entry })
one-bytes from body head entry is frames entry_is =
    let heads = head-in body head is in
    let frame : frame_in body ≡ record { number = head.number; bytes = entry } = (λ i. record { number = (heads i).number; bytes = take (heads i).length (drop 64 body) }) ∙ ap (λ (l : List ℕ). record { number = head.number; bytes = l }) (sym entry_is) in
    ap (λ (fs : List Frame). flat_map frame_bytes fs) frames
    ∙ flat_map-cons frame_bytes (frame_in body) []
    ∙ append-nil (frame_bytes (frame_in body))
    ∙ ap frame_bytes frame

-- Nothing was sent of some bytes.
pub sent-nothing : (bytes before : List ℕ) → HasSentPart bytes before before
sent-nothing bytes before = record { sent = []; more = bytes; parts = refl; written = sym (append-nil before) }

-- A part of a piece was sent.
pub sent-piece : (bytes piece before now : List ℕ) → bytes ≡ piece → TookPart before piece now → HasSentPart bytes before now
sent-piece bytes piece before now is took = record {
  sent = take took.0 piece;
  more = drop took.0 piece;
  parts = is ∙ sym (take-append-drop took.0 piece);
  written = took.2;
}

-- ---- more bodies

pub frames-append : (from : ℕ) (xs ys : List (List ℕ)) → frames_in from (xs ++ ys) ≡ frames_in from xs ++ frames_in from ys
frames-append from xs ys =
    ap (map frame_in) (filter-append (is_sent from) xs ys) ∙ map-append frame_in (filter (is_sent from) xs) (filter (is_sent from) ys)

pub bytes-append : (from : ℕ) (xs ys : List (List ℕ)) → bytes_in from (xs ++ ys) ≡ bytes_in from xs ++ bytes_in from ys
bytes-append from xs ys =
    ap (λ (fs : List Frame). flat_map frame_bytes fs) (frames-append from xs ys) ∙ flat_map-append frame_bytes (frames_in from xs) (frames_in from ys)

-- What was sent of the first bytes, and then a part of the others.
pub sent-on : (first second before mid now : List ℕ) → mid ≡ before ++ first → HasSentPart second mid now → HasSentPart (first ++ second) before now
sent-on first second before mid now whole part = record {
  sent = first ++ part.sent;
  more = part.more;
  parts = ap (λ (l : List ℕ). first ++ l) part.parts ∙ sym (append_assoc first part.sent part.more);
  written = part.written ∙ ap (λ (l : List ℕ). l ++ part.sent) whole ∙ append_assoc before first part.sent;
}

-- A part of the first bytes is one of all.
pub sent-of : (first more before now : List ℕ) → HasSentPart first before now → HasSentPart (first ++ more) before now
sent-of first more before now part = record {
  sent = part.sent;
  more = part.more ++ more;
  parts = ap (λ (l : List ℕ). l ++ more) part.parts ∙ append_assoc part.sent part.more more;
  written = part.written;
}

module _ {D : Type 0} (disk : Ghosts D) {K : Type 0} (sink : Sinking K) where
  -- The log of a device, of this many blocks, was shipped from one gate to another.
  pub record IsSentSince (from blocks start : ℕ) (begun d : D) (old new : K) (gate count : ℕ) : Type 0 where
    pub reads : OnlyReads disk begun d
    pub below : gate < blocks
    pub few : count ≤ gate
    pub later : sink.faults old ≤ sink.faults new
    pub ships : disk.is_observable → ShipsTo disk sink from start begun old new gate count
    pub unsent : count ≡ 0 → new ≡ old

  -- Nothing was shipped yet.
  pub sent-first : (from blocks start : ℕ) (d : D) (old : K) → start < blocks → (disk.is_observable → (c : Image) → disk.images_since d (disk.calls d) c → disk.images_now d c) → IsSentSince from blocks start d d old old start 0
  sent-first from blocks start d old low only_now = record {
    reads = no-calls d only_now;
    below = omega arith;
    few = omega arith;
    later = omega arith;
    ships = λ seen. record { bodies = []; extents = refl; counted = refl; sent = λ told. sym (append-nil (sink.written old)) };
    unsent = λ none. refl;
  }

  module _ (from blocks start : ℕ) (begun d e : D) (old k l : K) (gate count : ℕ) (since : IsSentSince from blocks start begun d old k gate count) (on : OnlyReads disk d e) where
    reads-on : OnlyReads disk begun e
    reads-on = OnlyReads-trans begun d e since.reads on

    -- The log could not be read further.
    pub stops-here : disk.is_observable → StopsIn disk sink from start begun old k
    stops-here seen =
        let ships = since.ships seen in
        record {
          bodies = ships.bodies;
          gate = gate;
          extents = ships.extents;
          sent = λ told. record { sent = bytes_in from ships.bodies; more = []; parts = sym (append-nil (bytes_in from ships.bodies)); written = ships.sent told };
        }

    -- What was counted before a frame that was not sent.
    pub counts-part : (why : ShipFault) → ((why ≡ SinkFault → ⊥) → l ≡ k) → sink.faults k ≤ sink.faults l → CountsSent disk sink from start begun old l count (Err why)
    counts-part why same later = record {
      all = λ n is. absurd (cc);
      later = omega (arith, since.later, later);
      none = λ works none. same (λ is. works (ap Err is)) ∙ since.unsent none;
      some = λ seen works. (gate, subst (λ (x : K). ShipsTo disk sink from start begun old x gate count) (sym (same (λ is. works (ap Err is)))) (since.ships seen));
    }

    pub find-cause : (fault : ExtentFault) → FindCause disk.is_observable (disk.contents d) blocks gate (disk.faults d) (disk.faults e) fault → SendCause disk sink blocks start begun e old k (fault_of_extent fault)
    find-cause (extent.Damaged block) cause = λ seen.
        let ships = since.ships seen in
        record {
          bodies = ships.bodies;
          gate = gate;
          extents = ships.extents;
          damage = subst (λ image. IsDamagedExtent image blocks gate block) (sym (same-bytes begun d since.reads seen)) (cause seen);
        }
    find-cause extent.Fault cause = omega (arith, cause, since.reads.counts.more_faults)
    find-cause extent.Want cause = tt

    -- The gate is closed.
    pub ships-all : (disk.is_observable → IsClosed (disk.contents d) gate) → disk.is_observable → ShipsLog disk sink from start begun old k count
    ships-all closed seen = record {
      gate = gate;
      ships = since.ships seen;
      closed = subst (λ image. IsClosed image gate) (sym (same-bytes begun d since.reads seen)) (closed seen);
    }

    module _ (head : Head) (body : List ℕ) (next : ℕ) (whole : IsWholeExtent blocks gate head body next) (there : disk.is_observable → IsOpen (disk.contents d) gate × Has (disk.contents d) (4096 * (gate + 1)) body) where
      -- One extent more.
      extents-on : (seen : disk.is_observable) → Extents (disk.contents begun) start ((since.ships seen).bodies ++ body ∷ []) next
      extents-on seen =
          let at = subst (λ image. IsOpen image gate × Has image (4096 * (gate + 1)) body) (sym (same-bytes begun d since.reads seen)) (there seen) in
          Extents-found (disk.contents begun) blocks gate head body next whole start (since.ships seen).bodies (since.ships seen).extents at

      pub sent-more : (n : ℕ) → n ≡ length (frames_in from (body ∷ [])) → n ≤ 1 → (sink.is_observable → sink.written l ≡ sink.written k ++ bytes_in from (body ∷ [])) → sink.faults k ≤ sink.faults l → (n ≡ 0 → l ≡ k) → IsSentSince from blocks start begun e old l next (count + n)
      sent-more n counted few sent later same = record {
        reads = reads-on;
        below = whole.inside;
        few = omega (arith, since.few, few, whole.follows);
        later = omega (arith, since.later, later);
        ships = λ seen.
            let ships = since.ships seen in
            record {
              bodies = ships.bodies ++ body ∷ [];
              extents = extents-on seen;
              counted =
                  let both = ap (length {A = Frame}) (frames-append from ships.bodies (body ∷ [])) ∙ length-append (frames_in from ships.bodies) (frames_in from (body ∷ [])) in
                  omega (arith, both, ships.counted, counted);
              sent = λ told.
                  sent told ∙ ap (λ (x : List ℕ). x ++ bytes_in from (body ∷ [])) (ships.sent told)
                  ∙ append_assoc (sink.written old) (bytes_in from ships.bodies) (bytes_in from (body ∷ []))
                  ∙ ap (λ (x : List ℕ). sink.written old ++ x) (sym (bytes-append from ships.bodies (body ∷ [])));
            };
        unsent = λ none. same (omega (arith, none)) ∙ since.unsent (omega (arith, none));
      }

      -- Its frame was written in part.
      pub stops-in : (sink.is_observable → HasSentPart (bytes_in from (body ∷ [])) (sink.written k) (sink.written l)) → disk.is_observable → StopsIn disk sink from start begun old l
      stops-in part seen =
          let ships = since.ships seen in
          record {
            bodies = ships.bodies ++ body ∷ [];
            gate = next;
            extents = extents-on seen;
            sent = λ told.
                subst (λ bytes. HasSentPart bytes (sink.written old) (sink.written l)) (sym (bytes-append from ships.bodies (body ∷ [])))
                (sent-on (bytes_in from ships.bodies) (bytes_in from (body ∷ [])) (sink.written old) (sink.written k) (sink.written l) (ships.sent told) (part told));
          }

      pub body-cause : (fault : ShipFault) → BodyCause (sink.faults k) (sink.faults l) fault → SendCause disk sink blocks start begun e old l fault
      body-cause NotAStore cause = cause
      body-cause (Damaged block) cause = absurd cause
      body-cause Fault cause = absurd cause
      body-cause SinkFault cause = omega (arith, cause, since.later)
      body-cause Want cause = tt

-- ---- the frames of a history

-- The kind in the bytes of a head.
kind-in : (head : Head) → head.kind < 2 ^ 32 → (head_at (head_bytes head)).kind ≡ head.kind
unfolding head_bytes head_at
kind-in head small = from_be_bytes-to_be_bytes_4 head.kind small

-- The body of a checkpoint is not that of an entry.
checkpoint-kind : (before : Prefix) (body : List ℕ) → IsCheckpointOf before body → (head_in body).kind ≡ 2
unfolding checkpoint_body
checkpoint-kind before body is =
    let head = head_of_checkpoint is.format before.entries before.roots in
    let content = roll_bytes is.format (roll_of before.entries before.roots) in
    let first : take 64 body ≡ head_bytes head = ap (take 64) is.bytes ∙ take_at (head_bytes head) (content ++ zeros (padding (length content))) 64 (length-head_bytes head) in
    ap (λ (l : List ℕ). (head_at l).kind) first ∙ kind-in head (omega arith)

module _ (number : ℕ) (e : Entry) (root : ℕ) (pages : List NodePage) (body : List ℕ) (fits : FitsBody number e root pages) (is : body ≡ body_of number e root pages) where
  -- The head of the body of an entry.
  entry-head : head_in body ≡ head_of number e root pages
  entry-head = ap head_in is ∙ head-in (body_of number e root pages) (head_of number e root pages) (IsBody-body_of number e root pages fits)

  -- Its content.
  entry-content : take (length (spelling e)) (drop 64 body) ≡ spelling e
  unfolding body_of
  entry-content =
      let head = head_of number e root pages in
      let pad = zeros (padding (length (spelling e))) in
      let rest : drop 64 body ≡ (spelling e ++ pad) ++ flat_map page_bytes pages = ap (drop 64) is ∙ drop_at (head_bytes head) ((spelling e ++ pad) ++ flat_map page_bytes pages) 64 (length-head_bytes head) in
      ap (take (length (spelling e))) (rest ∙ append_assoc (spelling e) pad (flat_map page_bytes pages))
      ∙ take_at (spelling e) (pad ++ flat_map page_bytes pages) (length (spelling e)) refl

  -- Its frame.
  pub entry-frame : frame_in body ≡ record { number = number; bytes = spelling e }
  entry-frame =
      (λ i. record { number = (entry-head i).number; bytes = take (entry-head i).length (drop 64 body) })
      ∙ ap (λ (l : List ℕ). record { number = number; bytes = l }) entry-content

  pub entry-sent : (from : ℕ) → is_sent from body ≡ nat_le from number
  entry-sent from = ap (λ (h : Head). h.kind == 1 && nat_le from h.number) entry-head

-- One frame more.
frame-more : (from : ℕ) (body : List ℕ) (bodies : List (List ℕ)) (x : Frame) (rest : List Frame) → frame_in body ≡ x → is_sent from body ≡ is_from from x → frames_in from bodies ≡ filter (is_from from) rest → frames_in from (body ∷ bodies) ≡ filter (is_from from) (x ∷ rest)
frame-more from body bodies x rest frame sent same =
    ap (λ (t : Bool). map frame_in (cond t (body ∷ filter (is_sent from) bodies) (filter (is_sent from) bodies))) sent
    ∙ elim (is_from from x) as (λ (t : Bool). map frame_in (cond t (body ∷ filter (is_sent from) bodies) (filter (is_sent from) bodies)) ≡ cond t (x ∷ filter (is_from from) rest) (filter (is_from from) rest)) [
      | true ↦ λ i. frame i ∷ same i
      | false ↦ same
    ]

-- A checkpoint has no frame.
frame-none : (from : ℕ) (body : List ℕ) (bodies : List (List ℕ)) → (head_in body).kind ≡ 2 → frames_in from (body ∷ bodies) ≡ frames_in from bodies
frame-none from body bodies kind =
    ap (λ (k : ℕ). map frame_in (cond (k == 1 && is_from from (frame_in body)) (body ∷ filter (is_sent from) bodies) (filter (is_sent from) bodies))) kind

-- The entries that bodies add, and that their frames are those of the bodies.
pub record Adds (from : ℕ) (before : List Entry) (bodies : List (List ℕ)) (after : List Entry) : Type 0 where
  pub added : List Entry
  pub grown : after ≡ before ++ added
  pub frames : frames_in from bodies ≡ filter (is_from from) (frames_numbered (length before + 1) added)

module _ (Rule : RootRule) (from : ℕ) where
  pub lead-frames : (before : Prefix) (bodies : List (List ℕ)) (after : Prefix) → LeadTo Rule before bodies after → length before.entries ≤ before.gate → after.gate < 2 ^ 33 → Adds from before.entries bodies after.entries
  lead-frames before [] after leads few short = record {
    added = [];
    grown = sym (ap (λ (p : Prefix). p.entries) leads) ∙ sym (append-nil before.entries);
    frames = refl;
  }
  lead-frames before (body ∷ bodies) after leads few short = elim leads [
    | inl x ↦
        let e = x.0 in
        let more = with_extent before e x.1 x.2 body in
        let two = least-IsBodyOf before e x.1 x.2 body x.3 in
        let gates = LeadTo-gate Rule more bodies after x.5 in
        let size = length-append before.entries (e ∷ []) in
        let fits = FitsBody-of before e x.1 x.2 body x.3 (omega (arith, few, gates, short)) (omega (arith, gates, short)) in
        let adds = lead-frames more bodies after x.5 (omega (arith, few, two, size)) short in
        let next : length (before.entries ++ e ∷ []) + 1 ≡ length before.entries + 1 + 1 = omega (arith, size) in
        record {
          added = e ∷ adds.added;
          grown = adds.grown ∙ append_assoc before.entries (e ∷ []) adds.added;
          frames = frame-more from body bodies (record { number = length before.entries + 1; bytes = spelling e }) (frames_numbered (length before.entries + 1 + 1) adds.added)
              (entry-frame (length before.entries + 1) e x.1 x.2 body fits x.3.bytes) (entry-sent (length before.entries + 1) e x.1 x.2 body fits x.3.bytes from)
              (adds.frames ∙ ap (λ n. filter (is_from from) (frames_numbered n adds.added)) next);
        }
    | inr x ↦
        let more = with_checkpoint before body in
        let two = least-IsCheckpointOf before body x.0 in
        let adds = lead-frames more bodies after x.1 (omega (arith, few, two)) short in
        record {
          added = adds.added;
          grown = adds.grown;
          frames = frame-none from body bodies (checkpoint-kind before body x.0) ∙ adds.frames;
        }
  ]

-- ---- a part of a log

-- The extents up to a gate are the first ones of the log.
pub extents-front : (image : Image) (gate : ℕ) (xs ys : List (List ℕ)) (mid tail : ℕ) → Extents image gate xs mid → Extents image gate ys tail → IsClosed image tail → (more : List (List ℕ)) × (xs ++ more ≡ ys) × Extents image mid more tail
extents-front image gate [] ys mid tail x y closed = (ys, refl, subst (λ g. Extents image g ys tail) x y)
extents-front image gate (a ∷ xs) [] mid tail x y closed =
    absurd (closed (subst (IsOpen image) y x.0.1.is_open))
extents-front image gate (a ∷ xs) (b ∷ ys) mid tail x y closed =
    let same : a ≡ b = IsBody-one image (4096 * (gate + 1)) a b x.0.0 y.0.0 x.0.1.is_body y.0.1.is_body x.0.1.stored y.0.1.stored in
    let rest : Extents image (gate + need a) ys tail = subst (λ c. Extents image (gate + need c) ys tail) (sym same) y.1 in
    let more = extents-front image (gate + need a) xs ys mid tail x.1 rest closed in
    (more.0, (λ i. same i ∷ more.1 i), more.2)

-- Bodies that lead from one prefix to another are between their gates.
gates-same : (Rule : RootRule) (image : Image) (before : Prefix) (bodies : List (List ℕ)) (after : Prefix) (mid : ℕ) → LeadTo Rule before bodies after → Extents image before.gate bodies mid → mid ≡ after.gate
gates-same Rule image before [] after mid leads extents = sym extents ∙ ap (λ (p : Prefix). p.gate) leads
gates-same Rule image before (body ∷ bodies) after mid leads extents = elim leads [
  | inl x ↦ gates-same Rule image (with_extent before x.0 x.1 x.2 body) bodies after mid x.5 extents.1
  | inr x ↦ gates-same Rule image (with_checkpoint before body) bodies after mid x.1 extents.1
]

-- The extents after the first ones.
extents-rest : (image : Image) (gate : ℕ) (first others : List (List ℕ)) (tail : ℕ) → Extents image gate (first ++ others) tail → (mid : ℕ) × Extents image gate first mid × Extents image mid others tail
extents-rest image gate [] others tail extents = (gate, refl, extents)
extents-rest image gate (body ∷ first) others tail extents =
    let more = extents-rest image (gate + need body) first others tail extents.1 in
    (more.0, (extents.0, more.1), more.2)

-- No entry has a number from a higher one on.
none-from : (from number : ℕ) (h : List Entry) → number + length h ≤ from → filter (is_from from) (frames_numbered number h) ≡ []
none-from from number [] low = refl
none-from from number (e ∷ h) low =
    let rest = none-from from (number + 1) h (omega arith) in
    let lower : nat_le from number ≡ false = lt-leb from number (omega arith) in
    ap (λ (t : Bool). cond t (record { number = number; bytes = spelling e } ∷ filter (is_from from) (frames_numbered (number + 1) h)) (filter (is_from from) (frames_numbered (number + 1) h))) lower ∙ rest

-- The number in the head of a checkpoint.
number-in : (head : Head) → head.number < 2 ^ 64 → (head_at (head_bytes head)).number ≡ head.number
unfolding head_bytes head_at
number-in head small = from_be_bytes-to_be_bytes_8 head.number small

checkpoint-number : (before : Prefix) (body : List ℕ) → IsCheckpointOf before body → length before.entries < 2 ^ 64 → (head_in body).number ≡ length before.entries
unfolding checkpoint_body
checkpoint-number before body is few =
    let head = head_of_checkpoint is.format before.entries before.roots in
    let content = roll_bytes is.format (roll_of before.entries before.roots) in
    let first : take 64 body ≡ head_bytes head = ap (take 64) is.bytes ∙ take_at (head_bytes head) (content ++ zeros (padding (length content))) 64 (length-head_bytes head) in
    ap (λ (l : List ℕ). (head_at l).number) first ∙ number-in head few

-- What a log has from a gate on, and that its frames are those of the history.
pub record HasLeft (image : Image) (h : List Entry) (tail from start : ℕ) : Type 0 where
  pub rest : List (List ℕ)
  pub extents : Extents image start rest tail
  pub frames : frames_in from rest ≡ frames_from from h

module _ (size : ℕ) (image : Image) (h : List Entry) (holds : HoldsHistory size image h) where
  -- The log of the history.
  abbrev pub log-of : HoldsHistoryTo size image holds.blocks holds.tail h
  log-of = holds.holds

  bounded : holds.blocks ≤ 2 ^ 32
  bounded = omega (arith, log-of.same_blocks, log-of.chosen.stored.spelled.keeps.blocks_to)

  -- The frames of its bodies are those of the history.
  frames-held : (from : ℕ) → frames_in from log-of.bodies ≡ frames_from from h
  frames-held from =
      let adds = lead-frames IsRootOf from no_extents log-of.bodies (prefix_to holds.tail h log-of.leads.roots log-of.leads.pages) log-of.leads.lead (omega arith) (omega (arith, bounded, log-of.inside)) in
      adds.frames ∙ ap (λ l. filter (is_from from) (frames_numbered 1 l)) (sym adds.grown)

  left-all : (from : ℕ) → HasLeft image h holds.tail from first_gate
  left-all from = record { rest = log-of.bodies; extents = log-of.extents; frames = frames-held from }

  -- After a checkpoint with no higher number there are all frames.
  left-marked : (from : ℕ) (m : IsMarked IsRootOf log-of.bodies log-of.super.checkpoint log-of.super.tail) → IsAfterCheckpoint image log-of.super from → HasLeft image h holds.tail from log-of.super.tail
  left-marked from m after =
      let split = extents-rest image first_gate m.before (m.body ∷ m.after) holds.tail (subst (λ l. Extents image first_gate l holds.tail) m.parts log-of.extents) in
      let gate : split.0 ≡ m.log.gate = gates-same IsRootOf image no_extents m.before m.log split.0 m.leads split.1 in
      let there : split.0 ≡ log-of.super.checkpoint = gate ∙ sym m.gate in
      let next : split.0 + need m.body ≡ log-of.super.tail = ap (λ n. n + need m.body) there ∙ sym m.next in
      let high = Extents-le image (split.0 + need m.body) m.after holds.tail split.2.1 in
      let two = least-IsCheckpointOf m.log m.body m.is in
      let short : m.log.gate < 2 ^ 33 = omega (arith, gate, high, two, bounded, log-of.inside) in
      let adds = lead-frames IsRootOf from no_extents m.before m.log m.leads (omega arith) short in
      let long = LeadTo-gate IsRootOf no_extents m.before m.log m.leads in
      let count = LeadTo-length IsRootOf no_extents m.before m.log m.leads in
      let few : length m.log.entries < 2 ^ 64 = omega (arith, long, count, short) in
      let first = split.2.0.1 in
      let marked : IsExtent image log-of.super.checkpoint m.body split.2.0.0 = subst (λ n. IsExtent image n m.body split.2.0.0) there first in
      let same : after.body ≡ m.body = IsBody-one image (4096 * (log-of.super.checkpoint + 1)) after.body m.body after.head split.2.0.0 after.extent.is_body marked.is_body after.extent.stored marked.stored in
      let number : after.head.number ≡ length m.log.entries = ap (λ (x : Head). x.number) (sym (head-in after.body after.head after.extent.is_body)) ∙ ap (λ (l : List ℕ). (head_in l).number) same ∙ checkpoint-number m.log m.body m.is few in
      let none : frames_in from m.before ≡ [] = adds.frames ∙ none-from from 1 adds.added (omega (arith, number, after.lower, ap (length {A = Entry}) adds.grown)) in
      let frames : frames_in from log-of.bodies ≡ frames_in from m.after = ap (frames_in from) m.parts ∙ frames-append from m.before (m.body ∷ m.after) ∙ ap (λ (fs : List Frame). fs ++ frames_in from (m.body ∷ m.after)) none ∙ frame-none from m.body m.after (checkpoint-kind m.log m.body m.is) in
      record {
        rest = m.after;
        extents = subst (λ g. Extents image g m.after holds.tail) next split.2.1;
        frames = sym frames ∙ frames-held from;
      }

  left-after : (from : ℕ) → IsAfterCheckpoint image log-of.super from → HasLeft image h holds.tail from log-of.super.tail
  left-after from after = elim log-of.starts [
    | inl none ↦ let zero_is = none.0 in absurd (omega (arith, zero_is, after.some))
    | inr m ↦ left-marked from m after
  ]

  -- What is shipped has all frames.
  pub left-from : (s : Super) (from start : ℕ) → IsChosen size image s → IsShipStart image s from start → HasLeft image h holds.tail from start
  left-from s from start chosen (inl is) = subst (HasLeft image h holds.tail from) (sym is) (left-all from)
  left-from s from start chosen (inr after) =
      let same = one_chosen size image s log-of.super chosen log-of.chosen in
      let at : start ≡ log-of.super.tail = after.0 ∙ ap (λ (x : Super). x.tail) same in
      subst (HasLeft image h holds.tail from) (sym at) (left-after from (subst (λ x. IsAfterCheckpoint image x from) same after.1))

  module _ (from start : ℕ) (left : HasLeft image h holds.tail from start) where
    -- All of it was read.
    pub whole-held : (bodies : List (List ℕ)) (gate : ℕ) → Extents image start bodies gate → IsClosed image gate → frames_in from bodies ≡ frames_from from h
    whole-held bodies gate extents closed =
        ap (frames_in from) (Extents-one image start bodies left.rest gate holds.tail extents closed left.extents log-of.closed).0 ∙ left.frames

    -- A part of it was sent, so a part of the frames.
    pub part-held : (bodies : List (List ℕ)) (gate : ℕ) (before now : List ℕ) → Extents image start bodies gate → HasSentPart (bytes_in from bodies) before now → HasSentPart (flat_map frame_bytes (frames_from from h)) before now
    part-held bodies gate before now extents part =
        let front = extents-front image start bodies left.rest gate holds.tail extents left.extents log-of.closed in
        let whole : bytes_in from bodies ++ bytes_in from front.0 ≡ flat_map frame_bytes (frames_from from h) = sym (bytes-append from bodies front.0) ∙ ap (bytes_in from) front.1 ∙ ap (λ (fs : List Frame). flat_map frame_bytes fs) left.frames in
        subst (λ l. HasSentPart l before now) whole (sent-of (bytes_in from bodies) (bytes_in from front.0) before now part)

    -- No block keeps it from being read.
    undamaged-at : (gate block : ℕ) (more : List (List ℕ)) → Extents image gate more holds.tail → IsDamagedExtent image holds.blocks gate block → ⊥
    undamaged-at gate block [] extents damage = log-of.closed (subst (IsOpen image) extents damage.is_open)
    undamaged-at gate block (body ∷ more) extents damage =
        let high = Extents-le image (gate + need body) more holds.tail extents.1 in
        extent-unbroken image gate body extents.0.0 extents.0.1 holds.blocks block (omega (arith, high, log-of.inside)) damage

    pub undamaged : (s : Super) (block : ℕ) → IsChosen size image s → IsFirstDamage image s.blocks start block → ⊥
    undamaged s block chosen first =
        let front = extents-front image start first.bodies left.rest first.gate holds.tail first.extents left.extents log-of.closed in
        let same : s.blocks ≡ holds.blocks = ap (λ (x : Super). x.blocks) (one_chosen size image s log-of.super chosen log-of.chosen) ∙ log-of.same_blocks in
        undamaged-at first.gate block front.0 front.2 (subst (λ n. IsDamagedExtent image n first.gate block) same first.damage)

  no-log-damage : (from block : ℕ) → IsLogDamage size image from block → ⊥
  no-log-damage from block d = undamaged from d.start (left-from d.super from d.start d.chosen d.begins) d.super block d.chosen d.damage

  -- No cause is a damaged block, or a store that is missing.
  pub no-damage : {D : Type 0} (disk : Ghosts D) {K : Type 0} (sink : Sinking K) (from : ℕ) (old new : D) (before after : K) → disk.size old ≡ size → disk.contents old ≡ image → disk.is_observable → (fault : ShipFault) → ShipCause disk sink from old new before after fault → IsNoDamage fault
  no-damage disk sink from old new before after same_size same seen NotAStore cause =
      chosen_not_none size image log-of.super log-of.chosen (subst (HasNoSuper size) same (subst (λ n. HasNoSuper n (disk.contents old)) same_size (cause seen)))
  no-damage disk sink from old new before after same_size same seen (Damaged block) cause =
      ⊎_elim
      (λ damaged. chosen_not_damaged size image log-of.super block log-of.chosen damaged)
      (λ damaged. no-log-damage from block damaged)
      (subst (λ i. IsShipDamage size i from block) same (subst (λ n. IsShipDamage n (disk.contents old) from block) same_size (cause seen)))
  no-damage disk sink from old new before after same_size same seen Fault cause = tt
  no-damage disk sink from old new before after same_size same seen SinkFault cause = tt
  no-damage disk sink from old new before after same_size same seen Want cause = tt

-- ---- the start, and all

module _ {D : Type 0} (disk : Ghosts D) where
  -- A fault of the choice of a superblock is a cause.
  pub choice-cause : (old mid new : D) → disk.size mid ≡ disk.size old → (disk.is_observable → disk.contents mid ≡ disk.contents old) → disk.faults old ≤ disk.faults mid → (result : Result Super ChooseFault) → CausesFault (disk.faults mid) (disk.faults new) (result ≡ Err chosen.Fault) → (disk.is_observable → (result ≡ Err chosen.Fault → ⊥) → (result ≡ Err chosen.NotAStore) ↔ HasNoSuper (disk.size mid) (disk.contents mid)) → (disk.is_observable → (result ≡ Err chosen.Fault → ⊥) → (block : ℕ) → (result ≡ Err (chosen.Damaged block)) ↔ IsDamagedSuper (disk.size mid) (disk.contents mid) block) → (fault : ChooseFault) (cause : ShipFault) → result ≡ Err fault → (fault ≡ chosen.NotAStore → cause ≡ NotAStore) → ((block : ℕ) → fault ≡ chosen.Damaged block → cause ≡ Damaged block) → (fault ≡ chosen.Fault → cause ≡ Fault) → ChoiceCause disk old new cause
  choice-cause old mid new size same low result causes none damaged chosen.NotAStore cause is none_is damaged_is fault_is =
      subst (ChoiceCause disk old new) (sym (none_is refl))
      (λ seen. subst (HasNoSuper (disk.size old)) (same seen) (subst (λ n. HasNoSuper n (disk.contents mid)) size ((none seen (λ other. cc)).0 is)))
  choice-cause old mid new size same low result causes none damaged (chosen.Damaged block) cause is none_is damaged_is fault_is =
      subst (ChoiceCause disk old new) (sym (damaged_is block refl))
      (λ seen. subst (λ i. IsDamagedSuper (disk.size old) i block) (same seen) (subst (λ n. IsDamagedSuper n (disk.contents mid) block) size ((damaged seen (λ other. cc) block).0 is)))
  choice-cause old mid new size same low result causes none damaged chosen.Fault cause is none_is damaged_is fault_is =
      let rose = causes.rose is in
      subst (ChoiceCause disk old new) (sym (fault_is refl)) (omega (arith, rose, low))

  -- Calls that wrote nothing, and then calls that only read.
  pub keeps-reads : (old mid new : D) → KeepsDisk disk old mid → OnlyReads disk mid new → (disk.is_observable → (t : ℕ) (c : Image) → t ≤ disk.calls mid → disk.images_now mid c → disk.images_since mid t c) → KeepsDisk disk old new
  keeps-reads old mid new kept reads counts_now = record {
    counts = counts-trans disk old mid new kept.counts reads.counts;
    unwritten = λ seen.
        unwritten_on disk.calls disk.contents disk.images_now disk.images_since old mid new (kept.unwritten seen)
        (left_now disk.calls disk.images_since old mid (disk.images_now old) (disk.images_now mid) (counts_now seen) (kept.unwritten seen).moments) (reads.nothing seen);
  }

  -- The bytes are the same.
  pub keeps-bytes : (old mid : D) → KeepsDisk disk old mid → disk.is_observable → disk.contents mid ≡ disk.contents old
  keeps-bytes old mid kept seen = Same-is (disk.contents old) (disk.contents mid) (kept.unwritten seen).same

  module _ {K : Type 0} (sink : Sinking K) (from : ℕ) (old mid : D) (k : K) where
    -- The start failed, and nothing was written to the sink.
    pub start-stops : StopsStore disk sink from old k k
    start-stops = inl (λ told. refl)

    pub start-cause : (fault : ShipFault) → ChoiceCause disk old mid fault → ShipCause disk sink from old mid k k fault
    start-cause NotAStore cause = cause
    start-cause (Damaged block) cause = λ seen. inl (cause seen)
    start-cause Fault cause = cause
    start-cause SinkFault cause = absurd cause
    start-cause Want cause = absurd cause

    pub gate-cause : (new : D) → KeepsDisk disk old mid → (fault : ShipFault) → GateCause disk mid new fault → ShipCause disk sink from old new k k fault
    gate-cause new kept NotAStore cause = absurd cause
    gate-cause new kept (Damaged block) cause = absurd cause
    gate-cause new kept Fault cause = omega (arith, cause, kept.counts.more_faults)
    gate-cause new kept SinkFault cause = absurd cause
    gate-cause new kept Want cause = tt

  module _ {K : Type 0} (sink : Sinking K) (from : ℕ) (old mid d new : D) (before after : K) (kept : KeepsDisk disk old mid) (reads : OnlyReads disk mid d) (s : Super) (start : ℕ) (chosen : disk.is_observable → IsChosen (disk.size old) (disk.contents old) s) (begins : disk.is_observable → IsShipStart (disk.contents mid) s from start) where
    -- The bytes are those of the device as it was.
    its-bytes : disk.is_observable → disk.contents d ≡ disk.contents old
    its-bytes seen = sym (same-bytes mid d reads seen) ∙ keeps-bytes old mid kept seen

    its-start : (seen : disk.is_observable) → IsShipStart (disk.contents old) s from start
    its-start seen = subst (λ i. IsShipStart i s from start) (keeps-bytes old mid kept seen) (begins seen)

    pub log-back : disk.is_observable → (count : ℕ) → ShipsLog disk sink from start d before after count → ShipsStore disk sink from old before after count
    log-back seen count log = record {
      super = s;
      chosen = chosen seen;
      start = start;
      begins = its-start seen;
      ships = record {
        gate = log.gate;
        ships = record {
          bodies = log.ships.bodies;
          extents = subst (λ i. Extents i start log.ships.bodies log.gate) (its-bytes seen) log.ships.extents;
          counted = log.ships.counted;
          sent = log.ships.sent;
        };
        closed = subst (λ i. IsClosed i log.gate) (its-bytes seen) log.closed;
      };
    }

    -- What was counted of the log was shipped of the store.
    pub counts-back : (count : ℕ) (result : Result ℕ ShipFault) → CountsSent disk sink from start d before after count result → CountsShipped disk sink from old before after count result
    counts-back count result sent = record {
      all = sent.all;
      later = sent.later;
      none = sent.none;
      some = λ seen works more.
          let ships = (sent.some seen works).1 in
          record {
            super = s;
            chosen = chosen seen;
            start = start;
            begins = its-start seen;
            gate = (sent.some seen works).0;
            ships = record {
              bodies = ships.bodies;
              extents = subst (λ i. Extents i start ships.bodies (sent.some seen works).0) (its-bytes seen) ships.extents;
              counted = ships.counted;
              sent = ships.sent;
            };
          };
    }

    pub stop-back : disk.is_observable → StopsIn disk sink from start d before after → StopsStore disk sink from old before after
    stop-back seen stop = inr (record {
      super = s;
      chosen = chosen seen;
      start = start;
      begins = its-start seen;
      stops = record {
        bodies = stop.bodies;
        gate = stop.gate;
        extents = subst (λ i. Extents i start stop.bodies stop.gate) (its-bytes seen) stop.extents;
        sent = stop.sent;
      };
    })

    pub send-cause : (fault : ShipFault) → SendCause disk sink s.blocks start d new before after fault → ShipCause disk sink from old new before after fault
    send-cause NotAStore cause = absurd cause
    send-cause (Damaged block) cause = λ seen.
        inr (record {
          super = s;
          chosen = chosen seen;
          start = start;
          begins = its-start seen;
          damage = subst (λ i. IsFirstDamage i s.blocks start block) (its-bytes seen) (cause seen);
        })
    send-cause Fault cause = omega (arith, cause, kept.counts.more_faults, reads.counts.more_faults)
    send-cause SinkFault cause = cause
    send-cause Want cause = tt

  module _ {K : Type 0} (sink : Sinking K) (from : ℕ) (h : List Entry) (d e : D) (before after : K) (seen : disk.is_observable) (holds : HoldsHistory (disk.size d) (disk.contents d) h) where
    stops-history : StopsStore disk sink from d before after → sink.is_observable → HasSentPart (flat_map frame_bytes (frames_from from h)) (sink.written before) (sink.written after)
    stops-history (inl same) told = subst (HasSentPart (flat_map frame_bytes (frames_from from h)) (sink.written before)) (sym (same told)) (sent-nothing (flat_map frame_bytes (frames_from from h)) (sink.written before))
    stops-history (inr stop) told =
        let left = left-from (disk.size d) (disk.contents d) h holds stop.super from stop.start stop.chosen stop.begins in
        part-held (disk.size d) (disk.contents d) h holds from stop.start left stop.stops.bodies stop.stops.gate (sink.written before) (sink.written after) stop.stops.extents (stop.stops.sent told)

    -- What was shipped of a log is what was shipped of the history.
    pub ships-history : (result : Result ℕ ShipFault) → IfOk result (ShipsStore disk sink from d before after) → OnErr result (StopsStore disk sink from d before after) → IfErr result (ShipCause disk sink from d e before after) → ShipsHistory sink from h before after result
    ships-history (Ok count) store stop cause =
        let log = store.ships in
        let left = left-from (disk.size d) (disk.contents d) h holds store.super from store.start store.chosen store.begins in
        let frames = whole-held (disk.size d) (disk.contents d) h holds from store.start left log.ships.bodies log.gate log.ships.extents log.closed in (
          log.ships.counted ∙ ap (length {A = Frame}) frames,
          λ told. log.ships.sent told ∙ ap (λ (fs : List Frame). sink.written before ++ flat_map frame_bytes fs) frames,
        )
    ships-history (Err fault) store stop cause = (
      no-damage (disk.size d) (disk.contents d) h holds disk sink from d e before after refl refl seen fault cause,
      stops-history stop,
    )

  -- The start failed, and nothing was written to the sink.
  pub durable-start : {K : Type 0} (sink : Sinking K) (d : D) (k : K) (why : ShipFault) → ShipsDurable disk sink d k k (Err why)
  durable-start sink d k why = inl (λ told. refl)

  -- After the start a crash leaves what a read returns, and reads keep this.
  pub durable-log : {K : Type 0} (sink : Sinking K) (mid new : D) (before after : K) → disk.is_observable → Only (disk.contents mid) (disk.images_now mid) → OnlyReads disk mid new → (result : Result ℕ ShipFault) → ShipsDurable disk sink new before after result
  durable-log sink mid new before after seen only reads (Ok count) = Only-kept disk.calls disk.images_since disk.contents disk.images_now mid new only (reads.nothing seen)
  durable-log sink mid new before after seen only reads (Err why) = inr (Only-kept disk.calls disk.images_since disk.contents disk.images_now mid new only (reads.nothing seen))

-- The blocks of a superblock fit the device.
pub fits-super : (size : ℕ) (s : Super) → IsSuper size s → FitsDevice s.blocks size
fits-super size s is = record { inside = is.inside; addressable = is.blocks_to }

-- Its checkpoint is inside them.
pub checkpoint-below : (size : ℕ) (s : Super) → IsSuper size s → (s.checkpoint ≡ 0 → ⊥) → s.checkpoint < s.blocks
checkpoint-below size s is some = elim is.start [
  | inl none ↦ absurd (some none.0)
  | inr at ↦ let low = at.1 in omega (arith, low, is.tail_to)
]

pub ended-below : (size : ℕ) (s : Super) → IsSuper size s → 4 < s.blocks
ended-below size s is = omega (arith, is.blocks_from)
