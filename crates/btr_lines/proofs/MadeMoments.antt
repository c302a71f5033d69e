-- What the proofs by hand of `Moments::new` and `Moments::and` share: both make the empty struct. Assumes `Logic`.
use Rattle.std.proofs.Common.{List, [], ◌∷◌, refl}
use seplogic.Ra.Ura.{Ura}
use mir.Syntax.{Args, a_type}
use types.Logic.{Logic}
use types.Kit.{Goal, Item, Step, step, ‵, ◌$◌, fjoin}
use denote.RattleType.{RattleType}
use denote.Laws.{Is}
use denote.Param.{param, layouts}
use denote.Steps.{nothing, owned}
use denote.Struct.Laws.{makes}
use denote.Struct.Tuple.{Tuple}
use Rattle.std.specs.contracts.marker.PhantomData as Mark
use Rattle.bytes.proofs.Walks.{none, one, one_made}
use Rattle.btr_lines.specs.contracts.moments.Moments as Moments

module _ (A B : RattleType) where
  -- what the code takes for its type parameters
  abbrev pub args : Args
  args = layouts (a_type ∷ a_type ∷ []) (A, (B, tt))

  abbrev pub moments : RattleType
  moments = Moments.the_row (param 0 A) (param 1 B)

  -- the struct with these items
  abbrev pub of_items : List ((param 0 A).Denot × (param 1 B).Denot) → moments.Denot
  of_items items = record { of = record {}; items = items }

  -- the empty struct is made, whatever its items are
  module _ {M : Type 1} {𝓤 : Ura M} {𝓛 : Logic 𝓤} {K : Type 0} {Γ : List (Item 𝓤)} {G : Goal 𝓤 𝓛.H} where
    pub moments_made : K → (items : List ((param 0 A).Denot × (param 1 B).Denot))
        → Step K 𝓛 (‵ (moments.own_val (of_items items) (one none ∷ [])) ∷ Γ) G Γ G
    moments_made t items = step (λ s.
        let pair : RattleType = Tuple (param 0 A ∷ param 1 B ∷ []) in
        let mark : RattleType = Mark.the_row pair in
        nothing t $ owned t mark (Is mark) (makes (Mark.the_type pair) tt 𝓛) (record {}) (none ∷ []) (tt, (refl, tt)) $
        one_made t mark (record {}) none $ fjoin t $ s)
