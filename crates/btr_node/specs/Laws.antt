-- What the definitions entail.
use Rattle.std.specs.Prelude.{◌≡◌}
use Rattle.btr_node.specs.declared.page.NodePage.{NodePage}
use Rattle.btr_node.specs.Page.{page_bytes, Fits}

-- No two pages have the same bytes.
abbrev pub PageOnce : Type 0
PageOnce = (p q : NodePage) → Fits p → Fits q → page_bytes p ≡ page_bytes q → p ≡ q
