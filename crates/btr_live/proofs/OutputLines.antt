-- Lines of outputs: what a line asks for that defines one, or that brings one up to date.
use Rattle.std.specs.Prelude.{◌≡◌, ℕ, Bool, true, false, cond, List, Option, Some, None}
use Rattle.std.proofs.Common.{sym, ◌∙◌, ap, subst, inl, inr, ⊎_elim}
use Rattle.btr_hist.specs.declared.entry.Entry.{Entry}
use Rattle.btr_hist.specs.declared.entry.Entry.TheVariants as entries
use Rattle.btr_hist.specs.declared.kernel.Kernel.{Kernel}
use Rattle.btr_hist.specs.declared.kernel.Spec.{Spec}
use Rattle.btr_hist.specs.History.{stream_of, spec_of, is_output, latest, reads, latest_reads}
use Rattle.btr_hist.specs.Machine.{Landing, same_reads, planned, plan_of}
use Rattle.btr_distil.specs.Plan.{PlanValue, entry_of}
use Rattle.btr_plan.specs.Plan.{IsCurrent, landing_of}
use Rattle.btr_plan.specs.Next.{IsUpToDate, IsNextPlan}
use Rattle.btr_plan.proofs.PlanLemmas.{plan-entry}
use Rattle.btr_text.specs.declared.script.Line.TheVariants as lines
use Rattle.btr_text.specs.declared.reply.Reason.TheVariants as reasons
use Rattle.btr_live.specs.Feeds.{Waiting}
use Rattle.btr_live.specs.Meaning.{Meaning, Commits, Current, Refuses, on_stream, on_second, define, land, refresh}
use Rattle.btr_live.specs.Replies.{Means}
use Rattle.btr_live.specs.Serving.{RefreshAsks}

-- ---- to define an output

module _ (h : List Entry) (id : ℕ) (kernel : Kernel) (lead grain first : ℕ) (second : Option ℕ) where
  -- the entry of an output whose inputs have these numbers
  abbrev pub defined : ℕ → Option ℕ → Entry
  defined f s = entries.Define id (record { kernel = kernel; lead = lead; grain = grain; first = f; second = s })

  abbrev pub defines : Meaning
  defines = define h id kernel lead grain first second

  pub define_no_first : stream_of h first ≡ None → defines ≡ Refuses reasons.Stream
  define_no_first none = ap (λ o. on_stream o (λ f. on_second h second (λ s. Commits (defined f s)))) none

  with_first : (f : ℕ) (found : Option ℕ) → stream_of h first ≡ Some f → second ≡ found → defines ≡ on_second h found (λ s. Commits (defined f s))
  with_first f found is same =
      ap (λ o. on_stream o (λ f. on_second h second (λ s. Commits (defined f s)))) is
      ∙ ap (λ o. on_second h o (λ s. Commits (defined f s))) same

  pub define_one : (f : ℕ) → stream_of h first ≡ Some f → second ≡ None → defines ≡ Commits (defined f None)
  define_one f is none = with_first f None is none

  pub define_two : (f other : ℕ) → stream_of h first ≡ Some f → second ≡ Some other → defines ≡ on_stream (stream_of h other) (λ s. Commits (defined f (Some s)))
  define_two f other is some = with_first f (Some other) is some

-- ---- to bring an output up to date

-- for an output that has a plan it asks for the commit of the plan
base-of : (t : Bool) (n p : Landing) → cond {A = Option Landing} t None (Some n) ≡ Some p → p.base ≡ n.base
base-of true n p is = absurd (cc)
base-of false n p is = cc

pub refresh-plan : (h : List Entry) (stream : ℕ) (p : PlanValue) → IsNextPlan h stream p → Commits (entry_of p) ≡ refresh h stream (spec_of h stream)
refresh-plan h stream p made =
    let spec : Spec = made.of.spec in
    let output : spec_of h stream ≡ Some spec = subst (λ (n : ℕ). spec_of h n ≡ Some spec) made.same_stream made.of.output in
    let is : planned h stream spec ≡ Some (landing_of p) = sym (ap (λ (o : Option Spec). plan_of h stream o) output) ∙ made.planned in
    let next : Landing = record { stream = stream; base = latest h stream; reads = latest_reads h spec } in
    let base : p.base ≡ latest h stream = base-of (same_reads (reads h stream spec (latest h stream)) (latest_reads h spec)) next (landing_of p) is in
    let current : IsCurrent h p = subst (λ (n : ℕ). latest h n ≡ p.base) (sym made.same_stream) (sym base) in
    ap (λ (e : Entry). Commits e) (plan-entry h p made.of current)
    ∙ sym (ap (λ (o : Option Landing). land h stream spec o) is)
    ∙ sym (ap (λ (o : Option Spec). refresh h stream o) output)

-- for one that is up to date it asks for nothing
pub refresh-up_to_date : (h : List Entry) (stream version : ℕ) → IsUpToDate h stream version → Current version ≡ refresh h stream (spec_of h stream)
refresh-up_to_date h stream version now =
    ap (λ (n : ℕ). Current n) now.latest
    ∙ sym (ap (λ (o : Option Landing). land h stream now.spec o) now.nothing)
    ∙ sym (ap (λ (o : Option Spec). refresh h stream o) now.output)

-- a plain stream is refused
pub refresh-plain : (h : List Entry) (stream : ℕ) → spec_of h stream ≡ None → Refuses reasons.Plain ≡ refresh h stream (spec_of h stream)
refresh-plain h stream none = sym (ap (λ (o : Option Spec). refresh h stream o) none)

-- ---- lines

module _ (batch : ℕ) (h : List Entry) (w : Waiting) (id : ℕ) where
  pub refresh_no_stream : stream_of h id ≡ None → Means batch h w (Some (lines.Refresh id)) (Refuses reasons.Stream)
  refresh_no_stream none = inl (sym (ap (λ o. on_stream o (λ s. refresh h s (spec_of h s))) none))

  refreshed : (stream : ℕ) → stream_of h id ≡ Some stream → on_stream (stream_of h id) (λ s. refresh h s (spec_of h s)) ≡ refresh h stream (spec_of h stream)
  refreshed stream is = ap (λ o. on_stream o (λ s. refresh h s (spec_of h s))) is

  pub refresh_of_plain : (stream : ℕ) → stream_of h id ≡ Some stream → spec_of h stream ≡ None → Means batch h w (Some (lines.Refresh id)) (Refuses reasons.Plain)
  refresh_of_plain stream is none = inl (refresh-plain h stream none ∙ sym (refreshed stream is))

  pub line_refreshed : (stream : ℕ) (m : Meaning) → stream_of h id ≡ Some stream → is_output h stream ≡ true → RefreshAsks stream h m → Means batch h w (Some (lines.Refresh id)) m
  line_refreshed stream m is output asked =
      ⊎_elim
      (λ does. inl (does ∙ sym (refreshed stream is)))
      (λ lacks. inr ((stream, is, output), lacks))
      asked
