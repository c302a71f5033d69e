-- Lemmas on the pieces of an input and the answers to them: one piece more.
use Rattle.std.specs.Prelude.{◌≡◌, ℕ, Bool, true, false, List, [], ◌∷◌, ◌++◌, map, Option, Some, None}
use Rattle.std.specs.List.{filter_map}
use Rattle.std.specs.Option.{is_some}
use Rattle.std.proofs.Common.{refl, sym, ap, ◌∙◌}
use Rattle.std.proofs.lemmas.List.{append-nil, map-append}
use Rattle.std.proofs.lemmas.List.Elements.{filter_map-append}
use Rattle.btr_text.specs.declared.script.ScriptLine.{ScriptLine}
use Rattle.btr_text.specs.declared.reply.LineReply.{LineReply}
use Rattle.btr_store.specs.declared.status.Status.{Status}
use Rattle.btr_store.specs.Status.{greater}
use Rattle.btr_store.specs.Replies.{status_of_reply, status_of_replies}
use Rattle.btr_store.proofs.ReplyLemmas.{greatest-push}
use Rattle.btr_serve.specs.Answers.{said_by, script_in, lines_in, has_reply, answer_text, replies_in}

-- ---- one item more

-- The last item gives nothing.
last_none : {X Y : Type 0} (h : X → Option Y) (xs : List X) (x : X) → h x ≡ None → filter_map h (xs ++ x ∷ []) ≡ filter_map h xs
last_none {X} {Y} h xs x none =
    filter_map-append h xs (x ∷ [])
    ∙ ap (λ (o : Option Y). filter_map h xs ++ filter_map (λ (p : Option Y). p) (o ∷ [])) none
    ∙ append-nil (filter_map h xs)

-- The last item gives this.
last_some : {X Y : Type 0} (h : X → Option Y) (xs : List X) (x : X) (y : Y) → h x ≡ Some y → filter_map h (xs ++ x ∷ []) ≡ filter_map h xs ++ y ∷ []
last_some {X} {Y} h xs x y some =
    filter_map-append h xs (x ∷ [])
    ∙ ap (λ (o : Option Y). filter_map h xs ++ filter_map (λ (p : Option Y). p) (o ∷ [])) some

-- ---- pieces

-- A piece that has no reply.
module _ (pieces : List (List ℕ)) (piece : List ℕ) (none : said_by piece ≡ None) where
  pub script_none : script_in (pieces ++ piece ∷ []) ≡ script_in pieces
  script_none = last_none said_by pieces piece none

  pub lines_none : lines_in (pieces ++ piece ∷ []) ≡ lines_in pieces
  lines_none = ap (map (λ (line : ScriptLine). line.line)) script_none

  pub has_none : map has_reply (pieces ++ piece ∷ []) ≡ map has_reply pieces ++ false ∷ []
  has_none =
      map-append has_reply pieces (piece ∷ [])
      ∙ ap (λ (o : Option ScriptLine). map has_reply pieces ++ is_some o ∷ []) none

-- A piece that says this.
module _ (pieces : List (List ℕ)) (piece : List ℕ) (said : ScriptLine) (some : said_by piece ≡ Some said) where
  pub script_some : script_in (pieces ++ piece ∷ []) ≡ script_in pieces ++ said ∷ []
  script_some = last_some said_by pieces piece said some

  pub lines_some : lines_in (pieces ++ piece ∷ []) ≡ lines_in pieces ++ said.line ∷ []
  lines_some =
      ap (map (λ (line : ScriptLine). line.line)) script_some
      ∙ map-append (λ (line : ScriptLine). line.line) (script_in pieces) (said ∷ [])

  pub has_some : map has_reply (pieces ++ piece ∷ []) ≡ map has_reply pieces ++ true ∷ []
  has_some =
      map-append has_reply pieces (piece ∷ [])
      ∙ ap (λ (o : Option ScriptLine). map has_reply pieces ++ is_some o ∷ []) some

-- ---- answers

module _ (answers : List (Option LineReply)) where
  -- No reply.
  pub replies_none : replies_in (answers ++ None ∷ []) ≡ replies_in answers
  replies_none = last_none (λ (answer : Option LineReply). answer) answers None refl

  -- This reply.
  pub replies_some : (reply : LineReply) → replies_in (answers ++ Some reply ∷ []) ≡ replies_in answers ++ reply ∷ []
  replies_some reply = last_some (λ (answer : Option LineReply). answer) answers (Some reply) reply refl

  pub answered_push : (answer : Option LineReply) → map is_some (answers ++ answer ∷ []) ≡ map is_some answers ++ is_some answer ∷ []
  answered_push answer = map-append (is_some {T = LineReply}) answers (answer ∷ [])

  pub texts_push : (answer : Option LineReply) → map answer_text (answers ++ answer ∷ []) ≡ map answer_text answers ++ answer_text answer ∷ []
  texts_push answer = map-append answer_text answers (answer ∷ [])

-- ---- one piece and its answer

-- A piece that has no reply has none among the answers.
pub each_none : (pieces : List (List ℕ)) (answers : List (Option LineReply)) (piece : List ℕ) → said_by piece ≡ None → map is_some answers ≡ map has_reply pieces → map is_some (answers ++ None ∷ []) ≡ map has_reply (pieces ++ piece ∷ [])
each_none pieces answers piece none each =
    answered_push answers None ∙ ap (λ (l : List Bool). l ++ false ∷ []) each ∙ sym (has_none pieces piece none)

-- A piece that has a reply has it.
pub each_some : (pieces : List (List ℕ)) (answers : List (Option LineReply)) (piece : List ℕ) (said : ScriptLine) (reply : LineReply) → said_by piece ≡ Some said → map is_some answers ≡ map has_reply pieces → map is_some (answers ++ Some reply ∷ []) ≡ map has_reply (pieces ++ piece ∷ [])
each_some pieces answers piece said reply some each =
    answered_push answers (Some reply) ∙ ap (λ (l : List Bool). l ++ true ∷ []) each ∙ sym (has_some pieces piece said some)

-- The texts of answers, and one more.
pub said_push : (answers : List (Option LineReply)) (texts : List (List ℕ)) (answer : Option LineReply) (said : List ℕ) → texts ≡ map answer_text answers → said ≡ answer_text answer → texts ++ said ∷ [] ≡ map answer_text (answers ++ answer ∷ [])
said_push answers texts answer said all one =
    ap (λ (l : List (List ℕ)). l ++ said ∷ []) all ∙ ap (λ (t : List ℕ). map answer_text answers ++ t ∷ []) one ∙ sym (texts_push answers answer)

-- ---- the status

-- One reply more.
pub status_push : (replies : List LineReply) (reply : LineReply) → status_of_replies (replies ++ reply ∷ []) ≡ greater (status_of_replies replies) (status_of_reply reply)
status_push replies reply = greatest-push _ replies reply

-- The status after one reply more, if it was that of the replies.
pub status_after : (replies : List LineReply) (reply : LineReply) (old new : Status) → old ≡ status_of_replies replies → new ≡ greater old (status_of_reply reply) → new ≡ status_of_replies (replies ++ reply ∷ [])
status_after replies reply old new was now =
    now ∙ ap (λ (s : Status). greater s (status_of_reply reply)) was ∙ sym (status_push replies reply)
