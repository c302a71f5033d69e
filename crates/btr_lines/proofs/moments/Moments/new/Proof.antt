-- `new` makes the empty struct, with the items that its clause names. Assumes `Logic`.
use Rattle.std.proofs.Common.{[], ◌∷◌, refl}
use mir.Syntax.{Fn}
use mir.MapTy.{inst_fn}
use contract.Running.{tables}
use types.Kit.{‵, raw, ◌⊛◌, ◌$◌, ◌∵◌, !, qed, move, keep, split, suffices, done}
use types.Part.{agg}
use types.Run.{enter, returns, and_then, no_more}
use types.ByLocal.{alloc_all, pass_all, free_all, look_at, get, sets}
use denote.RattleType.{owns}
use denote.Signature.{types_at}
use denote.Steps.{nothing}
use denote.Triple.Entry.{alive}
use denote.Triple.Walked.{says, walk_of, ends_at}
use Rattle.std.proofs.raw_atomic.Walks.{proved_at}
use Rattle.bytes.proofs.Walks.{none, one}
use Rattle.btr_lines.specs.contracts.moments.Moments.new as F
use Rattle.btr_lines.specs.contracts.moments.Moments.new.Key.{name as #self}
use Rattle.btr_lines.proofs.MadeMoments.{args, of_items, moments_made}
use Rattle.btr_lines.proofs.moments.Moments.new.Statement as stated
use Rattle.btr_lines.proofs.moments.Moments.new.Code as code

pub new_spec : {M : Type 1} → stated.statement M
new_spec 𝓤 𝓛 𝓜 𝓡 wired A B LA LB =
    let 𝓣 = tables 𝓤 𝓛.H 𝓜 𝓡 𝓡.env in
    let ended = F.ended A B in
    let held = F.clauses A B 𝓛 𝓜.mem 𝓡.returns in
    let function : Fn = inst_fn (args A B) code.function in
    let unfolded = code.unfolded 𝓤 𝓛.H 𝓜 𝓡 wired (A, (B, tt)) in
    proved_at 𝓛 ended tt held 𝓜 𝓡 tt (#self (args A B)) function unfolded (λ z are.
    let a = z.0.3 in
    let toks = alive 𝓛 ended.signature z.0.0 z.0.1 in
    qed 𝓛 ((raw toks ⊛ ‵ (owns (types_at ended.signature.params z.0.0) a z.0.4)) ∷ raw ((held z.0.0 a).requires z.1) ∷ []) ∵
    keep ! (0 ∷ []) $ split ! $ keep ! (0 ∷ []) $
    enter ! 𝓣.C 𝓣.Λ function [] ((walk_of 𝓛 ended tt held).post z) $ alloc_all ! (λ l. pass_all ! refl tt $
    sets ! (agg ! (no_more !)) refl (tt, tt) $
    sets ! (agg ! (and_then ! (get ! refl) (no_more !))) refl (tt, (tt, tt)) $
    moments_made A B ! [] $ returns ! (look_at ! 0 refl) $ free_all ! refl $
    suffices ! _ (ends_at 𝓛 ended tt held z (one none) (of_items A B []) tt tt) $ says ! refl $
    nothing ! $ move ! (2 ∷ 0 ∷ 1 ∷ []) $ done !))
