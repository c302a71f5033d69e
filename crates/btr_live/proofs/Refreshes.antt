-- Lemmas on refreshes: one that is done leaves its output up to date.
use Rattle.std.specs.Prelude.{◌≡◌, ℕ, ◌+◌, ◌==◌, Bool, true, cond, List, [], ◌∷◌, ◌++◌, length, Option, Some, None}
use Rattle.std.specs.Option.{unwrap_or}
use Rattle.std.proofs.Common.{suc, refl, sym, ◌∙◌, ap, subst, ⊎_elim, arith}
use Rattle.std.proofs.lemmas.Bool.{eq-eqb, eqb-true, and_parts, cases_Bool}
use Rattle.btr_base.specs.Commit.{Change}
use Rattle.btr_hist.specs.declared.entry.Entry.{Entry}
use Rattle.btr_hist.specs.declared.kernel.Spec.{Spec}
use Rattle.btr_hist.specs.declared.kernel.Reads.{Reads}
use Rattle.btr_hist.specs.declared.rejection.Rejection.{Rejection}
use Rattle.btr_hist.specs.Distil.{distillate}
use Rattle.btr_hist.specs.History.{spec_of, latest, nothing_read, reads, latest_reads, inputs_at}
use Rattle.btr_hist.specs.Legal.{rejection}
use Rattle.btr_hist.specs.Machine.{Landing, same_second, same_reads, landing}
use Rattle.btr_hist.proofs.VersionLemmas.{latest-push, read_by-push}
use Rattle.btr_text.specs.declared.script.Line.TheVariants as lines
use Rattle.btr_text.specs.declared.reply.LineReply.TheVariants.{Done, No}
use Rattle.btr_text.specs.declared.reply.Reason.{Reason}
use Rattle.btr_text.specs.declared.reply.Reason.TheVariants as reasons
use Rattle.btr_text.specs.Reasons.{reason_of_rejection}
use Rattle.btr_live.specs.Reasons.{holder}
use Rattle.btr_engine.specs.Body.{need_of}
use Rattle.btr_live.specs.Meaning.{Meaning, Commits, Current, Refuses, on_stream, land, refresh, meaning}
use Rattle.btr_live.specs.Replies.{reply_of_commit}
use Rattle.btr_live.specs.Script.{after_commit, IsNotDone, RepliesTo}
use Rattle.btr_live.specs.ScriptLaws.{RefreshesAreCurrent}
use Rattle.btr_jobs.specs.States.{StoreState}

-- ---- the same versions

-- Second inputs that the model takes for the same are the same.
same_second-true : (a b : Option ℕ) → same_second a b ≡ true → a ≡ b
same_second-true None None e = refl
same_second-true None (Some y) e = absurd (cc)
same_second-true (Some x) None e = absurd (cc)
same_second-true (Some x) (Some y) e = ap (λ (n : ℕ). Some n) (eqb-true x y e)

-- Versions that the model takes for the same are the same.
same_reads-true : (a b : Reads) → same_reads a b ≡ true → a ≡ b
same_reads-true a b e =
    let both = and_parts (a.first == b.first) (same_second a.second b.second) e in
    let first : a.first ≡ b.first = eqb-true a.first b.first both.0 in
    let second : a.second ≡ b.second = same_second-true a.second b.second both.1 in
    λ i. record { first = first i; second = second i }

-- ---- what a refresh asks for

module _ (h : List Entry) (stream : ℕ) (spec : Spec) where
  -- The versions that the output has read, and those that it is to read.
  abbrev has_read : Reads
  has_read = reads h stream spec (latest h stream)

  abbrev is_to_read : Reads
  is_to_read = latest_reads h spec

  -- The plan that brings the output up to date.
  abbrev next : Landing
  next = record { stream = stream; base = latest h stream; reads = is_to_read }

  -- The commit that lands it.
  abbrev next_commit : Entry
  next_commit = landing h next spec

  abbrev next_change : Change
  next_change = distillate spec (inputs_at h spec has_read) (inputs_at h spec is_to_read)

  abbrev asked_if : Bool → Meaning
  asked_if same = land h stream spec (cond same None (Some next))

  -- ---- after the next version

  -- The output has one version more.
  latest_next : latest (h ++ next_commit ∷ []) stream ≡ suc (latest h stream)
  latest_next =
      latest-push h next_commit stream next_change
      (ap (λ (t : Bool). cond {A = Option Change} t (Some next_change) None) (eq-eqb stream stream refl))

  -- Its new version has read what was planned.
  reads_next : reads (h ++ next_commit ∷ []) stream spec (suc (latest h stream)) ≡ is_to_read
  reads_next =
      ap (λ (o : Option Reads). unwrap_or o (nothing_read spec))
      (read_by-push h next_commit stream (Some is_to_read)
      (ap (λ (t : Bool). cond {A = Option (Option Reads)} t (Some (Some is_to_read)) None) (eq-eqb stream stream refl)))

-- ---- a refresh that is done

-- The version is that of the output, which stands for the latest versions that its inputs had before.
abbrev IsRefreshed : StoreState → StoreState → ℕ → Spec → ℕ → Type 0
IsRefreshed s t stream spec version =
    (version ≡ latest t.history stream) × (reads t.history stream spec version ≡ latest_reads s.history spec)

-- What is done is not refused.
not_refused : (version : ℕ) (r : Reason) → Done version ≡ No r → ⊥
not_refused version r is = absurd (cc)

-- Equal replies have the same version.
same_version : (a b : ℕ) → Done a ≡ Done b → a ≡ b
same_version a b is = cc

-- A line that is refused has no version.
refused_so : (s t : StoreState) (r : Reason) (version : ℕ) → RepliesTo s (Refuses r) (Done version) t → ⊥
refused_so s t r version replied =
    ⊎_elim
    (λ model. not_refused version r model.replied)
    (λ h. ⊎_elim (λ not. absurd not) (λ lacks. not_refused version reasons.Memory lacks.replied) h)
    replied

-- An output that was up to date stays so.
current_so : (s t : StoreState) (stream : ℕ) (spec : Spec) (version : ℕ) → reads s.history stream spec (latest s.history stream) ≡ latest_reads s.history spec → RepliesTo s (Current (latest s.history stream)) (Done version) t → IsRefreshed s t stream spec version
current_so s t stream spec version same replied =
    ⊎_elim
    (λ model.
    let is : version ≡ latest s.history stream = same_version version (latest s.history stream) model.replied in
    subst (λ (x : StoreState). IsRefreshed s x stream spec version) (sym model.store)
    (is, ap (λ (v : ℕ). reads s.history stream spec v) is ∙ same))
    (λ h. ⊎_elim (λ not. absurd not) (λ lacks. absurd (not_refused version reasons.Memory lacks.replied)) h)
    replied

-- An output whose next version was accepted is up to date.
accepted_so : (s t : StoreState) (stream : ℕ) (spec : Spec) (version : ℕ) (why : Option Rejection) → Done version ≡ reply_of_commit s.history (next_commit s.history stream spec) why → t ≡ after_commit s (next_commit s.history stream spec) why → IsRefreshed s t stream spec version
accepted_so s t stream spec version None replied store =
    let h : List Entry = s.history in
    let e : Entry = next_commit h stream spec in
    let is : version ≡ latest h stream + 1 = same_version version (latest h stream + 1) replied in
    let more : version ≡ suc (latest h stream) = omega (arith, is) in
    subst (λ (x : StoreState). IsRefreshed s x stream spec version) (sym store)
    (more ∙ sym (latest_next h stream spec), ap (λ (v : ℕ). reads (h ++ e ∷ []) stream spec v) more ∙ reads_next h stream spec)
accepted_so s t stream spec version (Some why) replied store = absurd (not_refused version (reason_of_rejection (holder s.history why) why) replied)

-- A commit that was not done has no version.
not_done : (s t : StoreState) (e : Entry) (version : ℕ) → IsNotDone s (Commits e) (Done version) t → ⊥
not_done s t e version h =
    ⊎_elim
    (λ full. not_refused version (reasons.Full (need_of s.history e) s.left) full.replied)
    (λ h. ⊎_elim
    (λ fault. not_refused version reasons.Device fault.replied)
    (λ h. ⊎_elim
    (λ stopped. not_refused version (reasons.Stopped (length s.history)) stopped.replied)
    (λ sealed. not_refused version reasons.Sealed sealed.replied)
    h)
    h)
    h

-- The commit of the next version, if it is done.
committed_so : (s t : StoreState) (stream : ℕ) (spec : Spec) (version : ℕ) → RepliesTo s (Commits (next_commit s.history stream spec)) (Done version) t → IsRefreshed s t stream spec version
committed_so s t stream spec version replied =
    ⊎_elim
    (λ model. accepted_so s t stream spec version (rejection s.history (next_commit s.history stream spec)) model.replied model.store)
    (λ h. ⊎_elim
    (λ not. absurd (not_done s t (next_commit s.history stream spec) version not))
    (λ lacks. absurd (not_refused version reasons.Memory lacks.replied))
    h)
    replied

-- A refresh of an output, if it is done.
done_so : (s t : StoreState) (stream : ℕ) (spec : Spec) (version : ℕ) → RepliesTo s (refresh s.history stream (Some spec)) (Done version) t → IsRefreshed s t stream spec version
done_so s t stream spec version replied =
    let h : List Entry = s.history in
    let old : Reads = has_read h stream spec in
    let new : Reads = is_to_read h stream spec in
    let along : (m : Meaning) → refresh h stream (Some spec) ≡ m → RepliesTo s m (Done version) t =
    λ m is. subst (λ (x : Meaning). RepliesTo s x (Done version) t) is replied in
    ⊎_elim
    (λ same. current_so s t stream spec version (same_reads-true old new same) (along (Current (latest h stream)) (ap (λ b. asked_if h stream spec b) same)))
    (λ differs. committed_so s t stream spec version (along (Commits (next_commit h stream spec)) (ap (λ b. asked_if h stream spec b) differs)))
    (cases_Bool (same_reads old new))

-- A refresh that is done leaves its output up to date.
pub refreshes_current : RefreshesAreCurrent
refreshes_current batch s t id stream version spec m is found output =
    let h : List Entry = s.store.history in
    let asked : meaning batch h s.waiting (Some (lines.Refresh id)) ≡ refresh h stream (Some spec) =
    ap (λ o. on_stream o (λ n. refresh h n (spec_of h n))) found ∙ ap (λ o. refresh h stream o) output in
    ⊎_elim
    (λ means. done_so s.store t.store stream spec version (subst (λ (x : Meaning). RepliesTo s.store x (Done version) t.store) (means ∙ asked) is.replied))
    (λ lacks. absurd (refused_so s.store t.store reasons.Memory version (subst (λ (x : Meaning). RepliesTo s.store x (Done version) t.store) lacks.1 is.replied)))
    is.means
