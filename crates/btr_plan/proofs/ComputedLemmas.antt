-- Lemmas on the test of a distillate: the versions that it reads, and its cut and points.
use Rattle.std.specs.Prelude.{◌≡◌, ℕ, nat_le, not, Bool, true, false, ◌&&◌, List, [], ◌∷◌, length, Option, None}
use Rattle.std.specs.Bool.{Decides}
use Rattle.std.specs.Ordering.{int_eq}
use Rattle.std.proofs.Common.{sym, ◌∙◌, ap}
use Rattle.std.proofs.lemmas.Bool.{not-false}
use Rattle.std.proofs.lemmas.Bool.Decides.{Decides-like, Decides-at, Decides-and, Decides-int_eq}
use Rattle.std.proofs.lemmas.Option.{same_Some}
use Rattle.btr_base.specs.declared.limits.TheConstants.{MAX_VERSIONS}
use Rattle.btr_base.specs.declared.point.Point.{Point}
use Rattle.btr_base.specs.Range.{RangeValue}
use Rattle.btr_base.specs.Commit.{Change}
use Rattle.btr_hist.specs.declared.entry.Entry.{Entry}
use Rattle.btr_hist.specs.declared.kernel.Spec.{Spec}
use Rattle.btr_hist.specs.declared.kernel.Reads.{Reads}
use Rattle.btr_hist.specs.declared.rejection.Rejection.{Rejection}
use Rattle.btr_hist.specs.declared.rejection.Rejection.TheVariants.{NoStream, NotWritable, VersionLimit}
use Rattle.btr_hist.specs.Distil.{distillate}
use Rattle.btr_hist.specs.History.{ids, spec_of, latest, reads, inputs_at}
use Rattle.btr_hist.specs.Legal.{when, distillate_change_rejection, next_bag, points_rejection, takes_reads, distillate_rejection, IsDistillate}
use Rattle.btr_hist.proofs.RejectionLemmas.{first_none, rest_none, when_none}
use Rattle.btr_distil.specs.Plan.{PlanValue, IsDistillateOf, change}
use Rattle.btr_distil.specs.Sight.{SightValue}
use Rattle.btr_plan.specs.Sight.{IsSightTo}

-- The next version of the output may read the versions that an accepted distillate reads.
pub takes-accepted : (h : List Entry) (stream : ℕ) (c : Change) (new : Reads) → distillate_rejection h stream c new ≡ None → takes_reads h stream (spec_of h stream) new ≡ true
takes-accepted h stream c new accepted =
    let takes = takes_reads h stream (spec_of h stream) new in
    let others : List (Option Rejection) = distillate_change_rejection c ∷ when (nat_le MAX_VERSIONS (latest h stream)) VersionLimit ∷ points_rejection (next_bag h stream c) ∷ [] in
    let known : Option Rejection = when (nat_le (length (ids h)) stream) NoStream in
    let writable : Option Rejection = when (not takes) NotWritable in
    not-false takes (when_none (not takes) NotWritable (first_none writable others (rest_none known (writable ∷ others) accepted)))

-- The change of the plan is the distillate of the definition, to the versions of the sight.
pub sight-distils : (h : List Entry) (stream : ℕ) (new : Reads) (s : SightValue) (p : PlanValue) → IsSightTo h stream new s → IsDistillateOf s p → IsDistillate h stream (change p) new
sight-distils h stream new s p sight distils = record {
  spec = s.spec;
  output = sight.output;
  change = distils (inputs_at h s.spec (reads h stream s.spec (latest h stream))) (inputs_at h s.spec new) sight.inputs;
}

-- There is one distillate of an output to these versions.
pub one-distillate : (h : List Entry) (stream : ℕ) (c d : Change) (new : Reads) → IsDistillate h stream c new → IsDistillate h stream d new → c ≡ d
one-distillate h stream c d new a b =
    let same : a.spec ≡ b.spec = same_Some a.spec b.spec (sym a.output ∙ b.output) in
    a.change
    ∙ ap (λ (spec : Spec). distillate spec (inputs_at h spec (reads h stream spec (latest h stream))) (inputs_at h spec new)) same
    ∙ sym b.change

-- ---- cuts and points that are compared

-- The bounds of two ranges are the same exactly if the ranges are.
pub same-range : (a b : RangeValue) → Decides (int_eq a.from b.from && int_eq a.to b.to) (a ≡ b)
same-range a b =
    Decides-like (int_eq a.from b.from && int_eq a.to b.to) (λ e i. record { from = e.0 i; to = e.1 i })
    (λ e. (ap (λ (r : RangeValue). r.from) e, ap (λ (r : RangeValue). r.to) e))
    (Decides-and (int_eq a.from b.from) (int_eq a.to b.to) (Decides-int_eq a.from b.from) (Decides-int_eq a.to b.to))

-- The times and values of two points are the same exactly if the points are.
pub same-point : (a b : Point) → Decides (int_eq a.time b.time && int_eq a.value b.value) (a ≡ b)
same-point a b =
    Decides-like (int_eq a.time b.time && int_eq a.value b.value) (λ e i. record { time = e.0 i; value = e.1 i })
    (λ e. (ap (λ (p : Point). p.time) e, ap (λ (p : Point). p.value) e))
    (Decides-and (int_eq a.time b.time) (int_eq a.value b.value) (Decides-int_eq a.time b.time) (Decides-int_eq a.value b.value))

-- Two slices are compared as what they show.
pub same-shown : {A : Type 0} (a b x y : List A) (r : Bool) → a ≡ x → b ≡ y → Decides r (a ≡ b) → Decides r (x ≡ y)
same-shown a b x y r left right same = Decides-like r (λ e. sym left ∙ e ∙ right) (λ e. left ∙ e ∙ sym right) same

-- Two changes are the same exactly if their cuts and their points are.
same-change : (c d : Change) (cut added : Bool) → Decides cut (c.cut ≡ d.cut) → Decides added (c.added ≡ d.added) → Decides (cut && added) (c ≡ d)
same-change c d cut added same_cut same_added =
    Decides-like (cut && added) (λ e i. record { cut = e.0 i; added = e.1 i })
    (λ e. (ap (λ (x : Change). x.cut) e, ap (λ (x : Change). x.added) e))
    (Decides-and cut added same_cut same_added)

-- If the cuts are the same, the points decide.
pub same-by_points : (c d : Change) (cut added : Bool) → Decides cut (c.cut ≡ d.cut) → Decides added (c.added ≡ d.added) → cut ≡ true → Decides added (c ≡ d)
same-by_points c d cut added same_cut same_added is =
    Decides-at added (cut && added) (sym (ap (λ (t : Bool). t && added) is)) (same-change c d cut added same_cut same_added)

-- If the cuts differ, the changes do.
pub same-by_cut : (c d : Change) (cut added : Bool) → Decides cut (c.cut ≡ d.cut) → Decides added (c.added ≡ d.added) → cut ≡ false → Decides cut (c ≡ d)
same-by_cut c d cut added same_cut same_added is =
    Decides-at cut (cut && added) (is ∙ sym (ap (λ (t : Bool). t && added) is)) (same-change c d cut added same_cut same_added)
