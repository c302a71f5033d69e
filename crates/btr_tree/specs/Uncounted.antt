-- A tree whose nodes are counted aside.
use Rattle.btr_tree.specs.declared.uncounted.Uncounted.{Uncounted}
use Rattle.btr_tree.specs.Root.{TreeValue}

-- The tree that is walked with a counter aside.
abbrev pub uncounted_tree : Uncounted → TreeValue
uncounted_tree t = t.tree.now
