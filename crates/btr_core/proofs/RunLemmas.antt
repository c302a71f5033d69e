-- The replies to events, one more at a time, and that the history is right after each.
use Rattle.std.specs.Prelude.{◌≡◌, ℕ, ◌+◌, ◌<◌, List, [], ◌∷◌, ◌++◌, length, map, take, drop, get_or}
use Rattle.std.proofs.Common.{sym, ap, ◌∙◌, append_assoc}
use Rattle.std.proofs.lemmas.List.{map-append, drop_more}
use Rattle.btr_hist.specs.Machine as model
use Rattle.btr_hist.specs.Laws.{MachineStaysLegal}
use Rattle.btr_hist.proofs.RightLemmas.{legal-right}
use Rattle.btr_core.specs.declared.event.Event.{Event}
use Rattle.btr_core.specs.declared.event.Reply.{Reply}
use Rattle.btr_core.specs.Events.{event_of, events_of, reply_of, AreRight}

-- The event at an index, and those after it.
pub drop-step : (es : List Event) (i : ℕ) (e : Event) → i < length es → e ≡ get_or es i e → drop i es ≡ e ∷ drop (i + 1) es
drop-step es i e low at = drop_more es i e low ∙ ap (λ (x : Event). x ∷ drop (i + 1) es) (sym at)

-- After one more event the replies so far and those to the events that are left are still all.
pub reply-more : (m : model.Machine) (done new : List Reply) (r : Reply) (e : Event) (left rest : List Event) (all : List model.Reply) → left ≡ e ∷ rest → new ≡ done ++ r ∷ [] → reply_of r ≡ model.reply m e.actor (event_of e.what) → map reply_of done ++ model.replies m (events_of left) ≡ all → map reply_of new ++ model.replies (model.next m e.actor (event_of e.what)) (events_of rest) ≡ all
reply-more m done new r e left rest all split pushed replied so_far =
    let others = model.replies (model.next m e.actor (event_of e.what)) (events_of rest) in
    ap (λ (rs : List Reply). map reply_of rs ++ others) pushed
    ∙ ap (λ (rs : List model.Reply). rs ++ others) (map-append reply_of done (r ∷ []))
    ∙ append_assoc (map reply_of done) (reply_of r ∷ []) others
    ∙ ap (λ (x : model.Reply). map reply_of done ++ x ∷ others) replied
    ∙ ap (λ (es : List Event). map reply_of done ++ model.replies m (events_of es)) (sym split)
    ∙ so_far

pub all-right : MachineStaysLegal → (es : List (ℕ × model.Event)) → AreRight es
all-right legal es n = legal-right (model.run model.start (take n es)).history (legal (take n es))
