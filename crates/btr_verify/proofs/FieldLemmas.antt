-- Values with equal fields are equal.
use Rattle.std.specs.Prelude.{◌≡◌, ℕ, ℤ, List, Option}
use Rattle.btr_base.specs.Agg.{AggValue}
use Rattle.btr_base.specs.declared.point.Point.{Point}
use Rattle.btr_base.specs.Span.{SpanValue}
use Rattle.btr_tree.specs.declared.node.Slot.{Slot}
use Rattle.btr_tree.specs.NewNodes.{NewNodeValue}

pub pair-by : (a b c d : ℤ) → a ≡ c → b ≡ d → (let p : ℤ × ℤ = (a, b) in p) ≡ (c, d)
pair-by a b c d p q = cc

pub span-by : (a b : ℤ) (m n : ℕ) → a ≡ b → m ≡ n → (let s : SpanValue = record { start = a; height = m } in s) ≡ record { start = b; height = n }
span-by a b m n p q = cc

pub agg-by : (n m : ℕ) (s t : ℤ) (a b : Option (ℤ × ℤ)) → n ≡ m → s ≡ t → a ≡ b → (let x : AggValue = record { count = n; total = s; ends = a } in x) ≡ record { count = m; total = t; ends = b }
agg-by n m s t a b p q r = cc

pub slot-by : (a b : AggValue) (v w m n : ℕ) → a ≡ b → v ≡ w → m ≡ n → (let x : Slot = record { agg = a; version = v; child = m } in x) ≡ record { agg = b; version = w; child = n }
slot-by a b v w m n p q r = cc

pub node-by : (s t : SpanValue) (v w : ℕ) (ps qs : List Point) (xs ys : List Slot) → s ≡ t → v ≡ w → ps ≡ qs → xs ≡ ys → (let a : NewNodeValue = record { span = s; version = v; points = ps; slots = xs } in a) ≡ record { span = t; version = w; points = qs; slots = ys }
node-by s t v w ps qs xs ys p q r e = cc
