-- What a crash leaves of the steps of a hall: at each moment of them, after each of them, and at their end.
use Rattle.std.specs.Prelude.{◌≡◌, ℕ, ◌≤◌, List, [], ◌∷◌, ◌++◌, length, take, Option, Some, None, Result, Ok, Err}
use Rattle.std.proofs.Common.{refl, sym, ap, ◌∙◌, subst, append_assoc, inl, inr, ⊎_elim, arith}
use Rattle.std.proofs.Math.Seq.{take-append_seam}
use Rattle.std.proofs.lemmas.List.{append-nil, length-append, take_all}
use Rattle.btr_disk.specs.declared.disk.Disk.{Ghosts}
use Rattle.btr_disk.specs.Bytes.{Image}
use Rattle.btr_disk.specs.Moments.{Leaves}
use Rattle.btr_disk.proofs.MomentLemmas.{begins, composes, weakens}
use Rattle.btr_hist.specs.declared.entry.Entry.{Entry}
use Rattle.btr_engine.specs.declared.engine.Engine.{Engine}
use Rattle.btr_streams.specs.declared.board.Receipt.{Receipt}
use Rattle.btr_engine.specs.declared.step.StepFault.{StepFault}
use Rattle.btr_engine.specs.declared.step.StepFault.TheVariants.{DeviceFault}
use Rattle.btr_engine.specs.Engine.{device, super_of, IsAtRest}
use Rattle.btr_engine.specs.Holds.{HoldsHistory}
use Rattle.btr_engine.specs.Step.{IsBeforeOrAfter, CanStep, IsStep, IsStepped, StopsByFault}
use Rattle.btr_engine.proofs.EngineLemmas.{holds_in}
use Rattle.btr_engine.proofs.RaiseLemmas.{counted_entry, most_entry}
use Rattle.btr_hall.specs.declared.item.Item.{Item}
use Rattle.btr_hall.specs.declared.item.Item.TheVariants.{Earlier, Added, Halted}
use Rattle.btr_hall.specs.Trace.{IsTrace, engine_after, entries_in}
use Rattle.btr_hall.specs.StoreLaws.{ends_stopped}
use Rattle.btr_jobs.specs.States.{LogState, failed_in}
use Rattle.btr_store.specs.Work.{HoldsPrefix, HoldsLog, KeepsHistory, EndsAt, KeepsEach}
use Rattle.btr_jobs.proofs.StateLemmas.{log_at}

-- A history is a prefix of one that begins with it.
front : (size : ℕ) (h more : List Entry) (failed : Option Entry) (c : Image) → HoldsHistory size c h → HoldsPrefix size (length h) (record { history = h ++ more; failed = failed }) c
front size h more failed c holds =
    inl (length h, omega arith, subst (λ (k : List Entry). HoldsHistory size c k) (sym (take-append_seam h more)) holds)

-- A prefix that is long enough for more entries is so for fewer.
fewer : (size many few : ℕ) (log : LogState) (c : Image) → few ≤ many → HoldsPrefix size many log c → HoldsPrefix size few log c
fewer size many few log c le holds =
    ⊎_elim
    (λ (prefix : (n : ℕ) × (many ≤ n) × HoldsHistory size c (take n log.history)). inl (prefix.0, omega (arith, le, prefix.1), prefix.2))
    (λ more. inr more)
    holds

-- the halt
one_failed : (size : ℕ) (h : List Entry) (e : Entry) (c : Image) → IsBeforeOrAfter size h e c → HoldsLog size (record { history = h ++ []; failed = Some e }) c
one_failed size h e c moment =
    subst (λ (k : List Entry). HoldsLog size (record { history = k; failed = Some e }) c) (sym (append-nil h))
    (⊎_elim (λ before. inl before) (λ after. inr (e, refl, after)) moment)

prefix_of_log : (size : ℕ) (h more : List Entry) (failed : Option Entry) (c : Image) → HoldsLog size (record { history = h ++ more; failed = failed }) c → HoldsPrefix size (length h) (record { history = h ++ more; failed = failed }) c
prefix_of_log size h more failed c holds =
    ⊎_elim
    (λ whole. inl (length (h ++ more), omega (arith, length-append h more), subst (λ (k : List Entry). HoldsHistory size c k) (sym (take_all (length (h ++ more)) (h ++ more) (omega arith))) whole))
    (λ one. inr one)
    holds

module _ {D : Type 0} {disk : Ghosts D} (reported : disk.is_observable) (only_now : (d : D) (c : Image) → disk.images_since d (disk.calls d) c → disk.images_now d c) (counts_now : (d : D) (t : ℕ) (c : Image) → t ≤ disk.calls d → disk.images_now d c → disk.images_since d t c) (size : ℕ) where
  -- An engine at rest, on a device of this size.
  record Rests (h : List Entry) (x : Engine D disk) : Type 0 where
    rest : IsAtRest h x
    same_size : disk.size (device x) ≡ size

  rests_now : (h : List Entry) (x : Engine D disk) → Rests h x → (c : Image) → disk.images_now (device x) c → HoldsHistory size c h
  rests_now h x at c left =
      subst (λ (n : ℕ). HoldsHistory n c h) at.same_size (holds_in h x at.rest c (at.rest.only.each c left))

  rests_next : (h : List Entry) (x y : Engine D disk) (e : Entry) (receipt : Receipt) → Rests h x → IsStep x y e (Ok receipt) → Rests (h ++ e ∷ []) y
  rests_next h x y e receipt at step = record {
    rest = step.at_rest reported h at.rest;
    same_size = step.kept.device_kept.same_size ∙ at.same_size;
  }

  -- the moments of a step, by the number of blocks
  step_moments : (h : List Entry) (x y : Engine D disk) (e : Entry) (result : Result Receipt StepFault) → Rests h x → IsStep x y e result → Leaves disk.calls disk.images_since (device x) (device y) (IsBeforeOrAfter size h e)
  step_moments h x y e result at step =
      subst (λ (n : ℕ). Leaves disk.calls disk.images_since (device x) (device y) (IsBeforeOrAfter n h e)) at.same_size (step.moments reported h at.rest)

  -- nothing follows a step in which the device failed
  nothing_after : (h : List Entry) (x y : Engine D disk) (e : Entry) (l : List (Item D disk)) → Rests h x → IsStep x y e (Err DeviceFault) → IsTrace y l → l ≡ []
  nothing_after h x y e l at step trace =
      let fault : CanStep h x e × StopsByFault x y e = step.cause h at.rest.of in
      ends_stopped y l fault.1.stopped trace

  -- the steps of a list leave prefixes
  abbrev Left : List Entry → Engine D disk → List (Item D disk) → Type 0
  Left h x l = Leaves disk.calls disk.images_since (device x) (device (engine_after x l)) (HoldsPrefix size (length h) (log_at h l))

  one_added : (h : List Entry) (e : Entry) (l : List (Item D disk)) (c : Image) → IsBeforeOrAfter size h e c → HoldsPrefix size (length h) (record { history = h ++ e ∷ entries_in l; failed = failed_in l }) c
  one_added h e l c moment =
      ⊎_elim
      (λ before. front size h (e ∷ entries_in l) (failed_in l) c before)
      (λ after.
      subst (λ (k : List Entry). HoldsPrefix size (length h) (record { history = k; failed = failed_in l }) c) (append_assoc h (e ∷ []) (entries_in l))
      (fewer size (length (h ++ e ∷ [])) (length h) (log_at (h ++ e ∷ []) l) c (omega (arith, length-append h (e ∷ [])))
      (front size (h ++ e ∷ []) (entries_in l) (failed_in l) c after)))
      moment

  then_more : (h : List Entry) (e : Entry) (l : List (Item D disk)) (c : Image) → HoldsPrefix size (length (h ++ e ∷ [])) (log_at (h ++ e ∷ []) l) c → HoldsPrefix size (length h) (record { history = h ++ e ∷ entries_in l; failed = failed_in l }) c
  then_more h e l c later =
      subst (λ (k : List Entry). HoldsPrefix size (length h) (record { history = k; failed = failed_in l }) c) (append_assoc h (e ∷ []) (entries_in l))
      (fewer size (length (h ++ e ∷ [])) (length h) (log_at (h ++ e ∷ []) l) c (omega (arith, length-append h (e ∷ []))) later)

  pub steps_leave : (h : List Entry) (x : Engine D disk) (l : List (Item D disk)) → IsAtRest h x → disk.size (device x) ≡ size → IsTrace x l → Left h x l
  steps_leave h x [] rest same trace =
      begins disk.calls disk.images_since (device x) (HoldsPrefix size (length h) (log_at {disk = disk} h [])) (λ c left. front size h [] None c (rests_now h x (record { rest = rest; same_size = same }) c (only_now (device x) c left)))
  steps_leave h x (Earlier ∷ l) rest same trace = absurd trace
  steps_leave h x (Added entry engine ∷ l) rest same trace =
      let y : Engine D disk = engine.value in
      let e : Entry = entry.value in
      let at : Rests h x = record { rest = rest; same_size = same } in
      let next : Rests (h ++ e ∷ []) y = rests_next h x y e trace.0.0 at trace.0.1 in
      let P : Image → Type 0 = HoldsPrefix size (length h) (record { history = h ++ e ∷ entries_in l; failed = failed_in l }) in
      composes disk.calls disk.images_since (device x) (device y) (device (engine_after y l)) P
      (weakens disk.calls disk.images_since (device x) (device y) (IsBeforeOrAfter size h e) P (one_added h e l) (step_moments h x y e (Ok trace.0.0) at trace.0.1))
      (weakens disk.calls disk.images_since (device y) (device (engine_after y l)) (HoldsPrefix size (length (h ++ e ∷ [])) (log_at (h ++ e ∷ []) l)) P (then_more h e l) (steps_leave (h ++ e ∷ []) y l next.rest next.same_size trace.1))
  steps_leave h x (Halted entry engine ∷ l) rest same trace =
      let y : Engine D disk = engine.value in
      let e : Entry = entry.value in
      let at : Rests h x = record { rest = rest; same_size = same } in
      let none : l ≡ [] = nothing_after h x y e l at trace.0 trace.1 in
      subst (λ (m : List (Item D disk)). Leaves disk.calls disk.images_since (device x) (device (engine_after y m)) (HoldsPrefix size (length h) (record { history = h ++ entries_in m; failed = Some e }))) (sym none)
      (weakens disk.calls disk.images_since (device x) (device y) (IsBeforeOrAfter size h e) (HoldsPrefix size (length h) (record { history = h ++ []; failed = Some e }))
      (λ c moment. prefix_of_log size h [] (Some e) c (one_failed size h e c moment))
      (step_moments h x y e (Err DeviceFault) at trace.0))

  -- at the end a crash leaves the whole history, and perhaps the entry of the halt
  pub steps_end : (h : List Entry) (x : Engine D disk) (l : List (Item D disk)) → IsAtRest h x → disk.size (device x) ≡ size → IsTrace x l → (c : Image) → disk.images_now (device (engine_after x l)) c → HoldsLog size (log_at h l) c
  steps_end h x [] rest same trace c left =
      inl (subst (λ (k : List Entry). HoldsHistory size c k) (sym (append-nil h)) (rests_now h x (record { rest = rest; same_size = same }) c left))
  steps_end h x (Earlier ∷ l) rest same trace c left = absurd trace
  steps_end h x (Added entry engine ∷ l) rest same trace c left =
      let y : Engine D disk = engine.value in
      let e : Entry = entry.value in
      let next : Rests (h ++ e ∷ []) y = rests_next h x y e trace.0.0 (record { rest = rest; same_size = same }) trace.0.1 in
      subst (λ (k : List Entry). HoldsLog size (record { history = k; failed = failed_in l }) c) (append_assoc h (e ∷ []) (entries_in l))
      (steps_end (h ++ e ∷ []) y l next.rest next.same_size trace.1 c left)
  steps_end h x (Halted entry engine ∷ l) rest same trace c left =
      let y : Engine D disk = engine.value in
      let e : Entry = entry.value in
      let at : Rests h x = record { rest = rest; same_size = same } in
      let none : l ≡ [] = nothing_after h x y e l at trace.0 trace.1 in
      let moments = step_moments h x y e (Err DeviceFault) at trace.0 in
      let here : disk.images_now (device y) c = subst (λ (m : List (Item D disk)). disk.images_now (device (engine_after y m)) c) none left in
      subst (λ (m : List (Item D disk)). HoldsLog size (record { history = h ++ entries_in m; failed = Some e }) c) (sym none)
      (one_failed size h e c (moments.each c (counts_now (device y) (disk.calls (device x)) c moments.later here)))

-- After each entry there is a device, and what a crash leaves from then on has the entries so far.
module _ {D : Type 0} (disk : Ghosts D) (reported : disk.is_observable) (only_now : (d : D) (c : Image) → disk.images_since d (disk.calls d) c → disk.images_now d c) (counts_now : (d : D) (t : ℕ) (c : Image) → t ≤ disk.calls d → disk.images_now d c → disk.images_since d t c) (new : D) (log : LogState) where
  abbrev size : ℕ
  size = disk.size new

  pub keeps_here : (h : List Entry) (x : Engine D disk) (l : List (Item D disk)) → IsAtRest h x → disk.size (device x) ≡ size → IsTrace x l → new ≡ device (engine_after x l) → log ≡ log_at h l → KeepsHistory disk log new (device x) h
  keeps_here h x l rest same trace ends is = record {
    now = λ c left. subst (λ (n : ℕ). HoldsHistory n c h) same (holds_in h x rest c (rest.only.each c left));
    since = subst (λ (k : LogState). Leaves disk.calls disk.images_since (device x) new (HoldsPrefix size (length h) k)) (sym is)
        (subst (λ (d : D). Leaves disk.calls disk.images_since (device x) d (HoldsPrefix size (length h) (log_at h l))) (sym ends)
        (steps_leave reported only_now counts_now size h x l rest same trace));
  }

  -- The device of a step, from here on.
  moments_here : (h : List Entry) (x y : Engine D disk) (e : Entry) (result : Result Receipt StepFault) → IsAtRest h x → disk.size (device x) ≡ size → IsStep x y e result → Leaves disk.calls disk.images_since (device x) (device y) (IsBeforeOrAfter size h e)
  moments_here h x y e result rest same step =
      subst (λ (n : ℕ). Leaves disk.calls disk.images_since (device x) (device y) (IsBeforeOrAfter n h e)) same (step.moments reported h rest)

  -- The same, by the device after the step.
  moments_last : (h : List Entry) (x y : Engine D disk) (e : Entry) → IsAtRest h x → IsStep x y e (Err DeviceFault) → Leaves disk.calls disk.images_since (device x) (device y) (IsBeforeOrAfter (disk.size (device y)) h e)
  moments_last h x y e rest step =
      subst (λ (n : ℕ). Leaves disk.calls disk.images_since (device x) (device y) (IsBeforeOrAfter n h e)) (sym step.kept.device_kept.same_size) (step.moments reported h rest)

  -- The end of a state of the log with this failure.
  ends_here : (failed : Option Entry) (d : D) (h : List Entry) → log.failed ≡ failed → EndsAt disk failed new d h → EndsAt disk log.failed new d h
  ends_here failed d h is ends = subst (λ (o : Option Entry). EndsAt disk o new d h) (sym is) ends

  pub keeps_each : (h : List Entry) (x : Engine D disk) (l : List (Item D disk)) → IsAtRest h x → disk.size (device x) ≡ size → IsTrace x l → new ≡ device (engine_after x l) → log ≡ log_at h l → KeepsEach disk log new (device x) h (entries_in l)
  keeps_each h x [] rest same trace ends is =
      (keeps_here h x [] rest same trace ends is, ends_here None (device x) h (ap (λ (k : LogState). k.failed) is) ends)
  keeps_each h x (Earlier ∷ l) rest same trace ends is = absurd trace
  keeps_each h x (Added entry engine ∷ l) rest same trace ends is =
      let y : Engine D disk = engine.value in
      let e : Entry = entry.value in
      let step : IsStep x y e (Ok trace.0.0) = trace.0.1 in
      let stepped : IsStepped h x y e trace.0.0 = step.stepped h rest.of in
      let sized : disk.size (device y) ≡ size = step.kept.device_kept.same_size ∙ same in
      let next : log ≡ log_at (h ++ e ∷ []) l = is ∙ sym (ap (λ (k : List Entry). record { history = k; failed = failed_in l }) (append_assoc h (e ∷ []) (entries_in l))) in (
        keeps_here h x (Added entry engine ∷ l) rest same trace ends is,
        device y,
        counted_entry (super_of x) e (disk.calls (device x)) (disk.calls (device y)) x.followable.format_from stepped.called,
        moments_here h x y e (Ok trace.0.0) rest same step,
        keeps_each (h ++ e ∷ []) y l (step.at_rest reported h rest) sized trace.1 ends next,
      )
  keeps_each h x (Halted entry engine ∷ l) rest same trace ends is =
      let y : Engine D disk = engine.value in
      let e : Entry = entry.value in
      let step : IsStep x y e (Err DeviceFault) = trace.0 in
      let fault : CanStep h x e × StopsByFault x y e = step.cause h rest.of in
      let none : l ≡ [] = ends_stopped y l fault.1.stopped trace.1 in
      let last : new ≡ device y = ends ∙ ap (λ (m : List (Item D disk)). device (engine_after y m)) none in
      let end : EndsAt disk (Some e) (device y) (device x) h = (fault.1.called, most_entry (super_of x) e (disk.calls (device x)) (disk.calls (device y)) x.followable.format_from fault.1.at_most, moments_last h x y e rest step) in
      subst (λ (m : List (Item D disk)). KeepsEach disk log new (device x) h (entries_in m)) (sym none) (
        keeps_here h x (Halted entry engine ∷ l) rest same trace ends is,
        ends_here (Some e) (device x) h (ap (λ (k : LogState). k.failed) is) (subst (λ (d : D). EndsAt disk (Some e) d (device x) h) (sym last) end),
      )
