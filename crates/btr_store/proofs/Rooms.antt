-- The entries that are added at a hall need no more blocks than there were when it began.
use Rattle.std.specs.Prelude.{◌≡◌, ℕ, ◌+◌, ◌≤◌, List, [], ◌∷◌, ◌++◌, option_to_list}
use Rattle.std.proofs.Common.{sym, ap, ◌∙◌, subst, arith}
use Rattle.btr_disk.specs.declared.disk.Disk.{Ghosts}
use Rattle.btr_hist.specs.declared.entry.Entry.{Entry}
use Rattle.btr_log.specs.Extents.{left}
use Rattle.btr_engine.specs.declared.engine.Engine.{Engine}
use Rattle.btr_engine.specs.Body.{need_of, needs_after}
use Rattle.btr_engine.specs.Engine.{blocks_of, tail_of, room_of, IsEngineOf}
use Rattle.btr_engine.specs.Step.{CanStep, IsStepped, StopsByFault}
use Rattle.btr_hall.specs.declared.item.Item.{Item}
use Rattle.btr_hall.specs.declared.item.Item.TheVariants.{Earlier, Added, Halted}
use Rattle.btr_hall.specs.Trace.{IsTrace, entries_in}
use Rattle.btr_hall.specs.StoreLaws.{ends_stopped}
use Rattle.btr_jobs.specs.States.{failed_in}

-- What fits after an entry fits with it before.
fits_before : (blocks tail need more : ℕ) → need ≤ left blocks tail → more ≤ left blocks (tail + need) → need + more ≤ left blocks tail
fits_before blocks tail need more here later = omega arith

module _ {D : Type 0} {disk : Ghosts D} where
  -- The entries of a list need no more blocks than are left at its beginning, also with the entry of the halt.
  pub steps_fit : (h : List Entry) (x : Engine D disk) (l : List (Item D disk)) → IsEngineOf h x → IsTrace x l → needs_after h (entries_in l ++ option_to_list (failed_in l)) ≤ room_of x
  steps_fit h x [] of trace = omega arith
  steps_fit h x (Earlier ∷ l) of trace = absurd trace
  steps_fit h x (Added entry engine ∷ l) of trace =
      let stepped : IsStepped h x engine.value entry.value trace.0.0 = trace.0.1.stepped h of in
      let rest : ℕ = needs_after (h ++ entry.value ∷ []) (entries_in l ++ option_to_list (failed_in l)) in
      let next : rest ≤ room_of engine.value = steps_fit (h ++ entry.value ∷ []) engine.value l stepped.of trace.1 in
      let room : room_of engine.value ≡ left (blocks_of x) (tail_of x + need_of h entry.value) = ap (λ b. left b (tail_of engine.value)) trace.0.1.kept.blocks ∙ ap (left (blocks_of x)) stepped.tail in
      fits_before (blocks_of x) (tail_of x) (need_of h entry.value) rest stepped.could.fits
      (subst (λ (n : ℕ). rest ≤ n) room next)
  steps_fit h x (Halted entry engine ∷ l) of trace =
      let fault : CanStep h x entry.value × StopsByFault x engine.value entry.value = trace.0.cause h of in
      let none : l ≡ [] = ends_stopped engine.value l fault.1.stopped trace.1 in
      subst (λ (m : List (Item D disk)). needs_after h (entries_in m ++ entry.value ∷ []) ≤ room_of x) (sym none)
      (let could : need_of h entry.value ≤ room_of x = fault.0.fits in omega (arith, could))
