-- Which entry a line asks for: that of a feed has the points that wait, and that of a refresh is a distillate of its output.
use Rattle.std.specs.Prelude.{◌≡◌, ℕ, Bool, true, false, List, [], ◌∷◌, ◌++◌, cond, Option, Some, None}
use Rattle.std.proofs.Common.{refl, sym, subst, ⊎_elim}
use Rattle.btr_base.specs.declared.point.Point.{Point}
use Rattle.btr_base.specs.Range.{RangeValue}
use Rattle.btr_base.specs.Bag.{sort}
use Rattle.btr_hist.specs.declared.entry.Entry.{Entry}
use Rattle.btr_hist.specs.declared.entry.Entry.TheVariants as entries
use Rattle.btr_hist.specs.declared.kernel.Reads.{Reads}
use Rattle.btr_hist.specs.declared.kernel.Spec.{Spec}
use Rattle.btr_hist.specs.History.{is_output, latest, reads, latest_reads}
use Rattle.btr_hist.specs.Machine.{Landing, same_reads}
use Rattle.btr_feed.specs.Feed.{held, insert_fault}
use Rattle.btr_feed.specs.declared.feed.Held.{Held}
use Rattle.btr_feed.specs.declared.feed.Held.TheVariants.{Buffered, Due}
use Rattle.btr_feed.specs.declared.feed.FeedFault.{FeedFault}
use Rattle.btr_text.specs.declared.script.Line.{Line}
use Rattle.btr_text.specs.declared.reply.Reason.TheVariants as reasons
use Rattle.btr_live.specs.Feeds.{Waiting, feed_of}
use Rattle.btr_live.specs.Meaning.{Meaning, Commits, Asks, Holds, Current, Refuses, on_stream, land, refresh, if_plain}
use Rattle.btr_live.specs.Meaning.{when_due, unless_fault, feed, flush, meaning}
use Rattle.btr_live.specs.Replies.{TakesMemory, Means}

-- What is asked for is such an entry, if it is one.
abbrev pub Asked : (Entry → Type 0) → Meaning → Type 0
Asked P (Commits e) = P e
Asked P (Asks query) = Unit {0}
Asked P (Holds count) = Unit {0}
Asked P (Current version) = Unit {0}
Asked P (Refuses reason) = Unit {0}

pub on_found : (P : Entry → Type 0) (found : Option ℕ) (asked : ℕ → Meaning) → ((stream : ℕ) → Asked P (asked stream)) → Asked P (on_stream found asked)
on_found P None asked each = tt
on_found P (Some stream) asked each = each stream

on_plain : (P : Entry → Type 0) (output : Bool) (asked : Meaning) → Asked P asked → Asked P (if_plain output asked)
on_plain P true asked is = tt
on_plain P false asked is = is

on_fault : (P : Entry → Type 0) (fault : Option FeedFault) (asked : Meaning) → Asked P asked → Asked P (unless_fault fault asked)
on_fault P None asked is = is
on_fault P (Some fault) asked is = tt

on_due : (stream : ℕ) (points : List Point) (due : Held) → Asked (λ e. e ≡ entries.Commit stream [] (sort points)) (when_due stream points due)
on_due stream points (Buffered count) = tt
on_due stream points (Due count) = refl

-- A line whose meaning is the commit of an entry asks for it.
pub asked_only : (batch : ℕ) (h : List Entry) (w : Waiting) (line : Option Line) (e : Entry) → Means batch h w line (Commits e) → Commits e ≡ meaning batch h w line
asked_only batch h w line e means =
    ⊎_elim
    (λ (same : Commits e ≡ meaning batch h w line). same)
    (λ (lacks : TakesMemory batch h w line × (Commits e ≡ Refuses reasons.Memory)). absurd (never lacks.1))
    means
  where
    never : Commits e ≡ Refuses reasons.Memory → ⊥
    never is = absurd (cc)

-- So the entry is as it must be.
pub entry_is : (P : Entry → Type 0) (m : Meaning) (e : Entry) → Commits e ≡ m → Asked P m → P e
entry_is P m e same asked = subst (λ (x : Meaning). Asked P x) (sym same) asked

pub asked_feed : (batch : ℕ) (h : List Entry) (stream : ℕ) (points added : List Point) → Asked (λ e. e ≡ entries.Commit stream [] (sort (points ++ added))) (if_plain (is_output h stream) (feed batch stream points added))
asked_feed batch h stream points added =
    let P : Entry → Type 0 = λ e. e ≡ entries.Commit stream [] (sort (points ++ added)) in
    let due : Held = held (feed_of batch stream (points ++ added)) in
    on_plain P (is_output h stream) (feed batch stream points added)
    (on_fault P (insert_fault (feed_of batch stream points) added) (when_due stream (points ++ added) due) (on_due stream (points ++ added) due))

on_flush : (stream : ℕ) (points : List Point) → Asked (λ e. e ≡ entries.Commit stream [] (sort points)) (flush stream points)
on_flush stream [] = tt
on_flush stream (p ∷ ps) = refl

pub asked_flush : (h : List Entry) (stream : ℕ) (points : List Point) → Asked (λ e. e ≡ entries.Commit stream [] (sort points)) (if_plain (is_output h stream) (flush stream points))
asked_flush h stream points = on_plain (λ e. e ≡ entries.Commit stream [] (sort points)) (is_output h stream) (flush stream points) (on_flush stream points)

-- The entry is a distillate of this output.
pub record IsOfOutput (output : ℕ) (e : Entry) : Type 0 where
  pub cut : List RangeValue
  pub added : List Point
  pub reads : Reads
  pub is : e ≡ entries.Distillate output cut added reads

pub asked_refresh : (h : List Entry) (stream : ℕ) (spec : Option Spec) → Asked (IsOfOutput stream) (refresh h stream spec)
asked_refresh h stream None = tt
asked_refresh h stream (Some spec) =
    let plan : Landing = record { stream = stream; base = latest h stream; reads = latest_reads h spec } in
    elim (same_reads (reads h stream spec (latest h stream)) (latest_reads h spec)) as (λ b. Asked (IsOfOutput stream) (land h stream spec (cond b None (Some plan)))) [
      | true ↦ tt
      | false ↦ record { cut = _; added = _; reads = _; is = refl }
    ]
