-- For callers of a gate: the paths of shares after a split and a meeting, and states under a setting.
use Rattle.std.proofs.Common.{◌≡◌, ℕ, ◌+◌, Bool, ap, ◌∙◌, arith}
use Rattle.btr_gate.specs.declared.view.View.{View}
use Rattle.btr_gate.specs.Shares.{on_path}
use Rattle.btr_gate.specs.Views.{kept_view, other_view, joined}
use Rattle.btr_gate.proofs.ShareLemmas.{on_path_append, on_path_halves}

module _ {E X : Type 0} where
  -- A pass meets the paths that both met.
  pub joined_paths : (path : ℕ → Bool) (v u w : View E X) → w ≡ joined v u → on_path path w.share ≡ on_path path v.share + on_path path u.share
  joined_paths path v u w e = ap (λ (x : View E X). on_path path x.share) e ∙ on_path_append path v.share u.share

  -- Both passes of a split meet the paths that the one met.
  pub split_paths : (path : ℕ → Bool) (v w u : View E X) → w ≡ kept_view v → u ≡ other_view v → on_path path w.share + on_path path u.share ≡ on_path path v.share
  split_paths path v w u e f =
      let a = ap (λ (x : View E X). on_path path x.share) e in
      let b = ap (λ (x : View E X). on_path path x.share) f in
      let s = on_path_halves path v.share in
      omega arith
