-- The laws of the state that the gate of a group carries, which its ghost members cite: its list is short and shows if the session is out.
use Rattle.std.specs.Prelude.{◌≡◌, ◌^◌, ◌<◌, not, List, length}
use Rattle.std.specs.Option.{is_some}
use Rattle.std.proofs.Common.{arith}
use Rattle.btr_disk.specs.declared.disk.Disk.{Ghosts}
use Rattle.btr_hall.specs.declared.group_item.GroupItem.{GroupItem}
use Rattle.btr_group.specs.declared.group.GroupSetting.{GroupSetting}
use Rattle.btr_group.specs.declared.state.GroupState.{GroupState}
use Rattle.btr_hall.specs.GroupBook.{book}
use Rattle.btr_group.specs.State.{IsGroupAt}

module _ {D : Type 0} {disk : Ghosts D} where
  pub group_bounded : (s : GroupState D disk) (l : List GroupItem) (x : GroupSetting D disk) → IsGroupAt s l x → length l < 2 ^ 63
  group_bounded s l x of = omega (arith, of.items, s.few, s.opened, s.batches, s.counted)

  pub group_lent : (s : GroupState D disk) (l : List GroupItem) (x : GroupSetting D disk) → IsGroupAt s l x
      → not (is_some s.session) ≡ is_some (book l).out
  group_lent s l x of = of.lent
