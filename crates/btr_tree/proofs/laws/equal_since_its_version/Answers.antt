use Rattle.btr_tree.specs.Nodes.{is_node, is_inner}
use Rattle.btr_tree.proofs.VersionLemmas.{points-since}
use Rattle.btr_tree.proofs.laws.equal_since_its_version.Goals as goal

pub returns : goal.returns
returns c h version =
    record {
      nodes = λ above height start le. points-since (is_node above height start) height start h version le;
      slots = λ above begin height start le. points-since (is_inner above begin) height start h version le;
    }
