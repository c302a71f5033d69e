-- A log that is read from its first gate, whatever checkpoint its superblock names.
use Rattle.std.specs.Prelude.{◌≡◌, ◌⊎◌, ℕ, ◌<◌, ◌≤◌, min, false, List, [], ◌∷◌}
use Rattle.std.specs.List.{AllByRecursion}
use Rattle.std.proofs.Common.{refl, sym, subst, arith, inl, inr}
use Rattle.std.proofs.lemmas.Bool.{cases_lt, ne_eqb}
use Rattle.btr_disk.specs.declared.disk.Disk.{Ghosts}
use Rattle.btr_disk.specs.Bytes.{Image}
use Rattle.btr_disk.specs.Gate.{IsClosed}
use Rattle.btr_super.specs.declared.superblock.Super.{Super}
use Rattle.btr_super.specs.Super.{has_seal, IsSuper}
use Rattle.btr_engine.specs.Body.{format_in, MayStandUnder}
use Rattle.btr_pages.specs.Known.{AreKnown}
use Rattle.btr_open.specs.declared.judge.Judge.{Ghosts as Judging}
use Rattle.btr_open.specs.declared.judged.WholeLog.{WholeLog}
use Rattle.btr_open.specs.declared.loading.Loader.{Loader}
use Rattle.btr_open.specs.declared.opening.OpenCause.{OpenCause}
use Rattle.btr_open.specs.Seen.{first_reading, IsJudgedLog, IsDamagedLogBy}
use Rattle.btr_open.specs.Reading.{IsJudgedRead, IsDamagedStoreBy, LogCause, WasJudged}
use Rattle.btr_open.specs.Reads.{PartCause}
use Rattle.btr_open.proofs.OpenCauses.{cause-along}

-- It keeps the table.
pub first-table : (size : ℕ) (s : Super) → IsSuper size s → IsSuper size (first_reading s)
first-table size s table = record {
  known_format = (omega (arith, table.known_format.0), omega arith);
  has_side = table.has_side;
  seq_from = omega arith;
  seq_to = omega (arith, table.known_format.0);
  blocks_from = table.blocks_from;
  blocks_to = table.blocks_to;
  inside = table.inside;
  tail_from = omega arith;
  tail_to = omega (arith, table.blocks_from);
  start = inl (refl, refl);
}

-- It has no seal.
pub first-unsealed : (s : Super) → has_seal (first_reading s) ≡ false
first-unsealed s = ne_eqb (min s.format 3) 4 (λ same. omega (arith, same))

-- The same bodies may stand under it.
pub formats-first : (s : Super) (bodies : List (List ℕ)) → s.format ≤ 4 → AllByRecursion (MayStandUnder s.format) bodies → AllByRecursion (MayStandUnder (first_reading s).format) bodies
formats-first s [] few all = tt
formats-first s (body ∷ bodies) few all =
    let one : MayStandUnder (min s.format 3) body = elim all.0 [
      | inl low ↦ elim (cases_lt (format_in body) 4) [
        | inl less ↦ inl (omega (arith, low, less))
        | inr last ↦ inr (omega (arith, low, last, few))
      ]
      | inr seal ↦ inr seal
    ] in
    (one, formats-first s bodies few all.1)

pub formats-from-first : (s : Super) (bodies : List (List ℕ)) → AllByRecursion (MayStandUnder (first_reading s).format) bodies → AllByRecursion (MayStandUnder s.format) bodies
formats-from-first s [] all = tt
formats-from-first s (body ∷ bodies) all =
    let one : MayStandUnder s.format body = elim all.0 [ inl low ↦ inl (omega (arith, low)) | inr seal ↦ inr seal ] in
    (one, formats-from-first s bodies all.1)

whole-judged : {J : Type 0} (by : Judging J) (size : ℕ) (image : Image) (s : Super) (l : Loader) (judge : J) (w : WholeLog) → IsJudgedRead by size image s w.tail l judge → IsClosed image w.tail → w.tail < s.blocks → w.nodes ≡ l.nodes → IsJudgedLog by.may by.is_after image s judge w
whole-judged by size image s l judge w is closed inside nodes = record {
  log = is.read.log;
  at = is.read.at;
  walk = is.read.walk;
  seen = is.seen;
  keeps = is.keeps;
  judged = is.judged;
  known = subst (λ n. AreKnown is.read.log.pages n) (sym nodes) is.read.into.known;
  closed = closed;
  inside = inside;
}

module _ {D : Type 0} (disk : Ghosts D) {J : Type 0} (by : Judging J) (found : Super) (old begun : D) (same : begun ≡ old) where
  -- The log was read whole.
  pub log-judged : (l : Loader) (judge : J) (w : WholeLog) → WasJudged disk by begun (first_reading found) w.tail l judge → (disk.is_observable → IsClosed (disk.contents begun) w.tail) → w.tail < found.blocks → w.nodes ≡ l.nodes → disk.is_observable → IsJudgedLog by.may by.is_after (disk.contents old) (first_reading found) judge w
  log-judged l judge w read closed inside nodes reported =
      subst (λ d. IsJudgedLog by.may by.is_after (disk.contents d) (first_reading found) judge w) same
      (whole-judged by (disk.size begun) (disk.contents begun) (first_reading found) l judge w (read reported) (closed reported) inside nodes)

  -- It was not. The superblock names no checkpoint whose start could be wrong.
  pub cause-judged : (new : D) (cause : OpenCause) → LogCause disk by (first_reading found) begun new cause → PartCause disk (IsDamagedLogBy by.may (disk.contents old) (first_reading found)) old new cause
  cause-judged new cause is =
      let s = first_reading found in
      let here : LogCause disk by s old new cause = subst (λ d. LogCause disk by s d new cause) same is in
      cause-along disk (IsDamagedStoreBy by.may (disk.contents old) s) (IsDamagedLogBy by.may (disk.contents old) s) old old new (omega arith)
      (λ reported block damage. elim damage [
        | inl wrong ↦ let some = wrong.0 in absurd (omega (arith, some))
        | inr broken ↦ broken
      ]) cause here
