use Rattle.std.proofs.Common.{◌++◌, ap, ◌∙◌}
use Rattle.btr_node.specs.Page.{header_bytes}
use Rattle.btr_node.proofs.filling.put_inner_header.Goals as goal

pub returns : goal.returns
returns c = c.put_header.ensures ∙ ap (λ l. l ++ header_bytes c.args.header.now) c.put.ensures
