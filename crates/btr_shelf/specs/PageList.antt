-- Pages in memory, by their blocks.
use Rattle.std.specs.Prelude.{ℕ, List, Option, IfSome}
use Rattle.std.specs.BTreeMap.{is_at}
use Rattle.std.specs.Map.{lookup}
use Rattle.std.specs.Ordering.{nat_cmp}
use Rattle.btr_node.specs.Page.{Keeps, Fits}
use Rattle.btr_node.specs.declared.page.NodePage.{NodePage}

-- The page of a block, if there is one.
abbrev pub held_page : List (ℕ × NodePage) → ℕ → Option NodePage
held_page pages block = lookup (is_at (nat_cmp block)) pages

-- Each page keeps the table, and its numbers fit their widths.
abbrev pub ArePages : List (ℕ × NodePage) → Type 0
ArePages pages = (block : ℕ) → IfSome (held_page pages block) (λ page. Keeps page × Fits page)
