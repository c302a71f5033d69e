-- What a step leaves of an engine: at each moment, and after a refusal.
use Rattle.std.specs.Prelude.{◌≡◌, ℕ, ◌+◌, ◌*◌, ◌≤◌, true, List, ◌++◌}
use Rattle.std.specs.List.{AllByRecursion}
use Rattle.std.specs.Coded.{le_prop}
use Rattle.std.proofs.Common.{refl, sym, ◌∙◌, ap, subst, inl, arith}
use Rattle.std.proofs.Math.Nat.{ℕ_set}
use mathlib.Core.Bool.{Bool-set}
use mathlib.Core.HLevel.{is_prop→PathP}
use Rattle.btr_disk.specs.declared.disk.Disk.{Ghosts}
use Rattle.btr_disk.specs.Bytes.{Image}
use Rattle.btr_disk.specs.Gate.{zeros}
use Rattle.btr_disk.proofs.MomentLemmas.{begins}
use Rattle.btr_log.specs.Extents.{need}
use Rattle.btr_log.specs.Append as append
use Rattle.btr_log.proofs.AppendLemmas.{body_in_run-append, IsAppendRun-from}
use Rattle.btr_log.specs.Log as log
use Rattle.btr_super.specs.Super.{is_log_start}
use Rattle.btr_hist.specs.declared.entry.Entry.{Entry}
use Rattle.btr_node.specs.declared.page.NodePage.{NodePage}
use Rattle.btr_pages.proofs.PageOfLemmas.{HasPlaces}
use Rattle.btr_engine.specs.declared.engine.Engine.{Engine}
use Rattle.btr_engine.specs.declared.place.Place.{Place}
use Rattle.btr_engine.specs.declared.place.Place.TheVariants.{Home, Out}
use Rattle.btr_engine.specs.Body.{body_of}
use Rattle.btr_engine.proofs.BodyLemmas.{head_of, FitsBody, IsBody-body_of, need-body_of}
use Rattle.btr_engine.specs.Place.{log_in, has_log}
use Rattle.btr_engine.specs.Engine.{log_of, device, is_home, IsAtRest, EngineLeaves}
use Rattle.btr_engine.specs.Travel.{IsLike}
use Rattle.btr_engine.specs.Step.{IsBeforeOrAfter}
use Rattle.btr_engine.proofs.EngineLemmas.{holds_in}

-- ---- the extent of an entry

module _ (number : ℕ) (e : Entry) (root : ℕ) (pages : List NodePage) (run : List ℕ) (is : run ≡ body_of number e root pages ++ zeros 4096) where
  -- The body of the run is the entry's.
  pub brings : append.body_in_run run ≡ body_of number e root pages
  brings = ap append.body_in_run is ∙ body_in_run-append (body_of number e root pages)

  -- It has two blocks or more, with the gate after it.
  pub needs_two : AllByRecursion HasPlaces pages → 2 ≤ need (append.body_in_run run)
  needs_two places =
      let same : need (append.body_in_run run) ≡ need (body_of number e root pages) = ap need brings in
      omega (arith, same, need-body_of number e root pages places)

  pub is_append_run : FitsBody number e root pages → append.IsAppendRun run
  is_append_run fits =
      subst append.IsAppendRun (sym is) (IsAppendRun-from (body_of number e root pages) (head_of number e root pages) (IsBody-body_of number e root pages fits))

module _ {D : Type 0} {disk : Ghosts D} where
  -- ---- the place of the log

  home_is : (p : Place D disk) → has_log p ≡ true → p ≡ Home (log_in p)
  home_is (Home l) is = refl
  home_is (Out taken) is = absurd (cc)

  -- Two places where the log is at home are the same if the logs are.
  pub same_place : (p q : Place D disk) → has_log p ≡ true → has_log q ≡ true → log_in p ≡ log_in q → p ≡ q
  same_place p q first second is = home_is p first ∙ ap Home is ∙ sym (home_is q second)

  -- ---- a step that changes nothing

  pub same_engine : (a b : Engine D disk) → a.place ≡ b.place → a.board ≡ b.board → a.stopped ≡ b.stopped → a.opened_with ≡ b.opened_with → a.chosen ≡ b.chosen → a.synced ≡ b.synced → a ≡ b
  same_engine a b places boards marks began chosen synced = λ i. record {
    place = places i;
    board = boards i;
    stopped = marks i;
    opened_with = began i;
    chosen = chosen i;
    synced = synced i;
    marked = is_prop→PathP (λ j. marks j ≡ (log_in (places j)).stopped) (λ j. Bool-set (marks j) (log_in (places j)).stopped) a.marked b.marked i;
    counted = is_prop→PathP (λ j. (boards j).entries ≤ (log_in (places j)).extents) (λ j. le_prop) a.counted b.counted i;
    ends = is_prop→PathP (λ j. 2 * (log_in (places j)).extents + 4 ≤ (log_in (places j)).tail) (λ j. le_prop) a.ends b.ends i;
    began = is_prop→PathP (λ j. began j ≤ (boards j).entries) (λ j. le_prop) a.began b.began i;
    called = is_prop→PathP (λ j. disk.calls (synced j).value ≤ disk.calls (log.log_device (log_in (places j)))) (λ j. le_prop) a.called b.called i;
    failed = is_prop→PathP (λ j. disk.faults (synced j).value ≤ log.faults_at (log_in (places j))) (λ j. le_prop) a.failed b.failed i;
    followable = record {
      side = is_prop→PathP (λ j. (chosen j).side ≤ 1) (λ j. le_prop) a.followable.side b.followable.side i;
      seq = is_prop→PathP (λ j. (chosen j).seq + 4 ≤ (chosen j).tail + (chosen j).format) (λ j. le_prop) a.followable.seq b.followable.seq i;
      format_from = is_prop→PathP (λ j. 1 ≤ (chosen j).format) (λ j. le_prop) a.followable.format_from b.followable.format_from i;
      format_to = is_prop→PathP (λ j. (chosen j).format ≤ 4) (λ j. le_prop) a.followable.format_to b.followable.format_to i;
      tail = is_prop→PathP (λ j. 4 ≤ (chosen j).tail) (λ j. le_prop) a.followable.tail b.followable.tail i;
      start = is_prop→PathP (λ j. is_log_start (chosen j).checkpoint (chosen j).tail ≡ true) (λ j. Bool-set (is_log_start (chosen j).checkpoint (chosen j).tail) true) a.followable.start b.followable.start i;
    };
    behind = is_prop→PathP (λ j. (chosen j).tail ≤ (log_in (places j)).tail) (λ j. le_prop) a.behind b.behind i;
    large = is_prop→PathP (λ j. 8 ≤ (log_in (places j)).blocks) (λ j. le_prop) a.large b.large i;
    same_blocks = is_prop→PathP (λ j. (chosen j).blocks ≡ (log_in (places j)).blocks) (λ j. ℕ_set (chosen j).blocks (log_in (places j)).blocks) a.same_blocks b.same_blocks i;
  }

  -- Two engines that differ at most in where the log is are the same if both have it at home.
  pub same_at_home : (a b : Engine D disk) → is_home a ≡ true → is_home b ≡ true → IsLike a b → a ≡ b
  same_at_home a b first second like =
      same_engine a b (same_place a.place b.place first second like.log) like.board (a.marked ∙ ap log.is_log_stopped like.log ∙ sym b.marked) like.entries like.chosen like.synced

  -- The device has the log of the bodies, at rest.
  pub log_at_rest : (h : List Entry) (engine : Engine D disk) (rest : IsAtRest h engine) → log.IsLogAtRest (log_of engine) rest.holds.bodies
  log_at_rest h engine rest =
      record { extents = rest.holds.extents; closed = rest.holds.closed; only = rest.only }

  -- No call of the device was made. `only_now` is its law.
  pub no_moment : (h : List Entry) (engine : Engine D disk) (e : Entry) → ((c : Image) → disk.images_since (device engine) (disk.calls (device engine)) c → disk.images_now (device engine) c) → IsAtRest h engine → EngineLeaves engine engine (IsBeforeOrAfter (disk.size (device engine)) h e)
  no_moment h engine e only_now rest =
      begins disk.calls disk.images_since (device engine) (IsBeforeOrAfter (disk.size (device engine)) h e) (λ c now. inl (holds_in h engine rest c (rest.only.each c (only_now c now))))
