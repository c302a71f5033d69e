-- Lemmas on the laws of serving: what an input says served and in `live`, and that lines run alone in one way.
use Rattle.std.specs.Prelude.{◌≡◌, ℕ, Bool, true, false, cond, List, [], ◌∷◌, length, map, filter_map, if◌then◌else◌}
use Rattle.std.specs.Prelude.{codes, nat_eq, Option, Some, None}
use Rattle.std.specs.List.{AllByRecursion, starts_with, cons_option}
use Rattle.std.specs.Option.{option_map_or}
use Rattle.std.specs.Str.Lines.{strip_carriage_return}
use Rattle.std.proofs.Common.{refl, sym, ap, ap₂, ◌∙◌, subst, arith, true≢false, ⊎_elim}
use Rattle.btr_base.specs.declared.point.Point.{Point}
use Rattle.btr_hist.specs.declared.entry.Entry.{Entry}
use Rattle.btr_text.specs.Input.{in_lane, said, asked, input_line, lines_of}
use Rattle.btr_text.specs.Word.{words_of, lane_of}
use Rattle.btr_text.specs.declared.script.Line.{Line}
use Rattle.btr_text.specs.declared.script.ScriptLine.{ScriptLine}
use Rattle.btr_text.specs.declared.reply.LineReply.{LineReply}
use Rattle.btr_text.specs.declared.reply.LineReply.TheVariants.{No}
use Rattle.btr_text.specs.declared.reply.Reason.TheVariants as reasons
use Rattle.btr_lines.specs.Lines.{pieces}
use Rattle.btr_engine.specs.Body.{need_of}
use Rattle.btr_jobs.specs.States.{StoreState}
use Rattle.btr_live.specs.Feeds.{Waiting, fed}
use Rattle.btr_live.specs.Meaning.{Meaning, Commits, Asks, Holds, Current, Refuses, meaning}
use Rattle.btr_live.specs.Replies.{waiting_after}
use Rattle.btr_live.specs.Script.{State, begun_state, Allows, IsModel, IsNotDone, RepliesTo, RepliesToLine, RunsScript}
use Rattle.btr_serve.specs.Laws.{NamesNoLane, IsOfModel, SaysAsScript, RepliesAreTheSame}

-- ---- what an input says

-- To pick from items that were mapped is to pick from the items.
filter_map_map : {A B C : Type 0} (f : B → Option C) (g : A → B) (items : List A) → filter_map f (map g items) ≡ filter_map (λ x. f (g x)) items
filter_map_map f g [] = refl
filter_map_map f g (x ∷ items) = ap (cons_option (f (g x))) (filter_map_map f g items)

-- Words of which the first names no lane say in a script what they say as a question.
said_as_asked : (ws : List (List ℕ)) → ((word : List ℕ) (rest : List (List ℕ)) → ws ≡ word ∷ rest → lane_of word ≡ None) → said ws ≡ asked ws
said_as_asked [] none = refl
said_as_asked (w ∷ ws) none =
    ap (λ l. Some (option_map_or (λ lane. in_lane lane ws) l (in_lane 0 (w ∷ ws)))) (none w ws refl)

-- So does a line.
line_as_asked : (line : List ℕ) → NamesNoLane line → input_line true line ≡ input_line false line
line_as_asked line none =
    ap (λ s. if starts_with nat_eq line (codes "#") then None else s) (said_as_asked (words_of line) none)

-- So do lines.
lines_as_asked : (lines : List (List ℕ)) → AllByRecursion NamesNoLane lines → filter_map (input_line false) lines ≡ filter_map (input_line true) lines
lines_as_asked [] none = refl
lines_as_asked (line ∷ lines) none =
    ap₂ cons_option (sym (line_as_asked line none.0)) (lines_as_asked lines none.1)

-- The pieces of an input say what it says.
pub says_as_script : (input : List ℕ) → SaysAsScript input
says_as_script input =
    let questions = sym (filter_map_map (input_line false) strip_carriage_return (pieces input)) in record {
      questions = questions;
      script = λ none. questions ∙ lines_as_asked (lines_of input) none;
    }

-- ---- one line, on stores in the same state

-- The reply to an entry that is not committed and whose step does not fail, if the store was stopped, or sealed.
abbrev undone : StoreState → Entry → Bool → Bool → LineReply
undone s e stopped sealed =
    cond stopped (No (reasons.Stopped (length s.history))) (cond sealed (No reasons.Sealed) (No (reasons.Full (need_of s.history e) s.left)))

-- No reply of the model tells that memory ran out, or of a device that failed.
not_memory : {P : Type 0} (reply : LineReply) → reply ≡ No reasons.Memory → IsOfModel reply → P
not_memory reply is of_model = absurd (subst IsOfModel is of_model)

not_device : {P : Type 0} (reply : LineReply) → reply ≡ No reasons.Device → IsOfModel reply → P
not_device reply is of_model = absurd (subst IsOfModel is of_model)

-- What was not done had this reply, and the store is as before.
undone_is : (s t : StoreState) (e : Entry) (reply : LineReply) → IsNotDone s (Commits e) reply t → IsOfModel reply → (reply ≡ undone s e s.stopped s.sealed) × (t ≡ s)
undone_is s t e reply h of_model =
    ⊎_elim
    (λ full. (full.replied ∙ ap₂ (undone s e) (sym full.not_stopped) (sym full.not_sealed), full.store))
    (λ h. ⊎_elim
    (λ fault. not_device reply fault.replied of_model)
    (λ h. ⊎_elim
    (λ stopped. (stopped.replied ∙ ap (λ x. undone s e x s.sealed) (sym stopped.stopped), stopped.store))
    (λ sealed. (sealed.replied ∙ ap₂ (undone s e) (sym sealed.not_stopped) (sym sealed.sealed), sealed.store))
    h)
    h)
    h

-- What the model does is not left undone.
done_or_not : {P : Type 0} (s t other : StoreState) (m : Meaning) (reply others : LineReply) → IsModel s m reply t → IsNotDone s m others other → IsOfModel others → P
done_or_not s t other (Commits e) reply others model h of_model =
    let allowed : Allows s (Commits e) = model.allowed in
    ⊎_elim
    (λ full. let fits = allowed.2 full.allowed in absurd (omega (arith, fits, full.short)))
    (λ h. ⊎_elim
    (λ fault. not_device others fault.replied of_model)
    (λ h. ⊎_elim
    (λ stopped. absurd (true≢false (sym stopped.stopped ∙ allowed.0)))
    (λ sealed. absurd (true≢false (sym sealed.sealed ∙ allowed.1)))
    h)
    h)
    h
done_or_not s t other (Asks query) reply others model h of_model = absurd h
done_or_not s t other (Holds count) reply others model h of_model = absurd h
done_or_not s t other (Current version) reply others model h of_model = absurd h
done_or_not s t other (Refuses reason) reply others model h of_model = absurd h

-- What is left undone twice has the same reply.
undone_same : (s t other : StoreState) (m : Meaning) (reply others : LineReply) → IsNotDone s m reply t → IsNotDone s m others other → IsOfModel reply → IsOfModel others → (reply ≡ others) × (t ≡ other)
undone_same s t other (Commits e) reply others h g of_model of_others =
    let one = undone_is s t e reply h of_model in
    let two = undone_is s other e others g of_others in
    (one.0 ∙ sym two.0, one.1 ∙ sym two.1)
undone_same s t other (Asks query) reply others h g of_model of_others = absurd h
undone_same s t other (Holds count) reply others h g of_model of_others = absurd h
undone_same s t other (Current version) reply others h g of_model of_others = absurd h
undone_same s t other (Refuses reason) reply others h g of_model of_others = absurd h

-- What is asked for has one reply, and leaves one store.
replies_same : (s t other : StoreState) (m : Meaning) (reply others : LineReply) → RepliesTo s m reply t → RepliesTo s m others other → IsOfModel reply → IsOfModel others → (reply ≡ others) × (t ≡ other)
replies_same s t other m reply others h g of_model of_others =
    ⊎_elim
    (λ model. ⊎_elim
    (λ same. (model.replied ∙ sym same.replied, model.store ∙ sym same.store))
    (λ g. ⊎_elim
    (λ not. done_or_not s t other m reply others model not of_others)
    (λ lacks. not_memory others lacks.replied of_others)
    g)
    g)
    (λ h. ⊎_elim
    (λ not. ⊎_elim
    (λ same. done_or_not s other t m others reply same not of_model)
    (λ g. ⊎_elim
    (λ too. undone_same s t other m reply others not too of_model of_others)
    (λ lacks. not_memory others lacks.replied of_others)
    g)
    g)
    (λ lacks. not_memory reply lacks.replied of_model)
    h)
    h

-- The reply to what had no memory to begin says so.
memory : (s t : StoreState) (reply : LineReply) → RepliesTo s (Refuses reasons.Memory) reply t → reply ≡ No reasons.Memory
memory s t reply replied =
    ⊎_elim (λ model. model.replied) (λ h. ⊎_elim (λ not. absurd not) (λ lacks. lacks.replied) h) replied

-- A line with a reply of the model was done as it asks for.
means_that : (batch : ℕ) (s t : State) (line : Option Line) (m : Meaning) (reply : LineReply) → RepliesToLine batch s line m reply t → IsOfModel reply → m ≡ meaning batch s.store.history s.waiting line
means_that batch s t line m reply is of_model =
    ⊎_elim
    (λ means. means)
    (λ lacks. not_memory reply (memory s.store t.store reply (subst (λ (x : Meaning). RepliesTo s.store x reply t.store) lacks.1 is.replied)) of_model)
    is.means

-- A store with these points.
abbrev with_waiting : StoreState → Waiting → State
with_waiting s w = record { store = s; waiting = w }

-- States of the same stores and points are the same.
same_state : (s t : State) → s.store ≡ t.store → s.waiting ≡ t.waiting → s ≡ t
same_state s t stores waits = ap₂ with_waiting stores waits

-- A line has one reply, and leaves one state.
line_same : (batch : ℕ) (s t other : State) (line : Option Line) (m n : Meaning) (reply others : LineReply) → RepliesToLine batch s line m reply t → RepliesToLine batch s line n others other → IsOfModel reply → IsOfModel others → (reply ≡ others) × (t ≡ other)
line_same batch s t other line m n reply others one two of_model of_others =
    let same : n ≡ m = means_that batch s other line n others two of_others ∙ sym (means_that batch s t line m reply one of_model) in
    let replied : RepliesTo s.store m others other.store = subst (λ (x : Meaning). RepliesTo s.store x others other.store) same two.replied in
    let both = replies_same s.store t.store other.store m reply others one.replied replied of_model of_others in
    let f : Option (ℕ × List Point) = fed s.store.history s.waiting line in
    let waiting : t.waiting ≡ other.waiting =
    one.waiting ∙ ap₂ (λ x r. waiting_after s.waiting f x r) (sym same) both.0 ∙ sym two.waiting in
    (both.0, same_state t other both.1 waiting)

-- ---- all lines

-- The same lines have the same replies, and leave the same state.
script_same : (batch : ℕ) (s t other : State) (script : List ScriptLine) (replies others : List LineReply) → RunsScript batch s script replies t → RunsScript batch s script others other → AllByRecursion IsOfModel replies → AllByRecursion IsOfModel others → (replies ≡ others) × (t ≡ other)
script_same batch s t other [] [] [] one two of_model of_others = (refl, sym one ∙ two)
script_same batch s t other [] [] (r ∷ others) one two of_model of_others = absurd two
script_same batch s t other [] (reply ∷ replies) others one two of_model of_others = absurd one
script_same batch s t other (line ∷ script) [] others one two of_model of_others = absurd one
script_same batch s t other (line ∷ script) (reply ∷ replies) [] one two of_model of_others = absurd two
script_same batch s t other (line ∷ script) (reply ∷ replies) (r ∷ others) one two of_model of_others =
    let first = line_same batch s one.0 two.0 line.line one.1 two.1 reply r one.2 two.2 of_model.0 of_others.0 in
    let along : RunsScript batch one.0 script others other = subst (λ (x : State). RunsScript batch x script others other) (sym first.1) two.3 in
    let rest = script_same batch one.0 t other script replies others one.3 along of_model.1 of_others.1 in
    (ap₂ (λ x l. x ∷ l) first.0 rest.0, rest.1)

-- Lines that run alone on stores in the same state have the same replies.
pub replies_are_the_same : RepliesAreTheSame
replies_are_the_same batch start one other script replies others ran too of_model of_others =
    let same = script_same batch (begun_state start) ran.last too.last script replies others ran.runs too.runs of_model of_others in
    (same.0, sym ran.history ∙ ap (λ (x : State). x.store.history) same.1 ∙ too.history)
