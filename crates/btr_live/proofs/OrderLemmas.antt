-- Lemmas on the items of a lane: one more line, and how many there are.
use Rattle.std.specs.Prelude.{◌≡◌, ℕ, ◌≤◌, ◌<◌, ◌==◌, Bool, true, false, cond, List, [], ◌∷◌, ◌++◌, length}
use Rattle.std.proofs.Common.{suc, refl, sym, ap, ◌∙◌, subst, arith, eq-eqb}
use Rattle.std.proofs.lemmas.List.{append-nil, append_assoc}
use Rattle.btr_text.specs.declared.reply.LineReply.{LineReply}
use Rattle.btr_text.specs.declared.script.ScriptLine.{ScriptLine}
use Rattle.btr_text.specs.Input.{HaveLanes}
use Rattle.btr_live.specs.OneHistory.{of_lane, lanes_of, lane_lines}

module _ {A : Type 0} (k : ℕ) where
  -- The items of a lane, with those of more lines.
  pub of_lane-append : (lanes more : List ℕ) (items others : List A) → length items ≡ length lanes → of_lane k (lanes ++ more) (items ++ others) ≡ of_lane k lanes items ++ of_lane k more others
  of_lane-append [] more [] others each = refl
  of_lane-append [] more (x ∷ xs) others each = absurd (omega (arith, each))
  of_lane-append (l ∷ ls) more [] others each = absurd (omega (arith, each))
  of_lane-append (l ∷ ls) more (x ∷ xs) others each =
      let rest : length xs ≡ length ls = omega (arith, each) in
      let more_is = of_lane-append ls more xs others rest in
      elim (l == k) as (λ t. cond t (x ∷ of_lane k (ls ++ more) (xs ++ others)) (of_lane k (ls ++ more) (xs ++ others)) ≡ cond t (x ∷ of_lane k ls xs) (of_lane k ls xs) ++ of_lane k more others) [
        | true ↦ ap (λ r. x ∷ r) more_is
        | false ↦ more_is
      ]

  -- A lane has as many items of one kind as of another.
  pub of_lane-length : {B : Type 0} (lanes : List ℕ) (items : List A) (others : List B) → length items ≡ length lanes → length others ≡ length lanes → length (of_lane k lanes items) ≡ length (of_lane k lanes others)
  of_lane-length [] items others each same = refl
  of_lane-length (l ∷ ls) [] others each same = absurd (omega (arith, each))
  of_lane-length (l ∷ ls) (x ∷ xs) [] each same = absurd (omega (arith, same))
  of_lane-length (l ∷ ls) (x ∷ xs) (y ∷ ys) each same =
      let first : length xs ≡ length ls = omega (arith, each) in
      let second : length ys ≡ length ls = omega (arith, same) in
      let rest = of_lane-length ls xs ys first second in
      elim (l == k) as (λ t. length (cond t (x ∷ of_lane k ls xs) (of_lane k ls xs)) ≡ length (cond t (y ∷ of_lane k ls ys) (of_lane k ls ys))) [
        | true ↦ ap suc rest
        | false ↦ rest
      ]

-- ---- one more reply

-- What a lane has left to tell, if these are the lanes of the lines that are left: as many replies as it has lines among them.
abbrev pub HasLeft : (ℕ → List LineReply) → List ℕ → Type 0
HasLeft left rest = (k : ℕ) → length (left k) ≡ length (of_lane k rest rest)

-- The replies that are in their places, with those that are left, are all replies.
abbrev pub HasPlaced : (ℕ → List LineReply) → (ℕ → List LineReply) → List ℕ → List LineReply → Type 0
HasPlaced all left lanes placed = (k : ℕ) → all k ≡ of_lane k lanes placed ++ left k

pub left-first : (left : ℕ → List LineReply) (lane : ℕ) (rest : List ℕ) → HasLeft left (lane ∷ rest) → 1 ≤ length (left lane)
left-first left lane rest has =
    let here : length (of_lane lane (lane ∷ rest) (lane ∷ rest)) ≡ length (lane ∷ of_lane lane rest rest) =
    ap (λ t. length (cond t (lane ∷ of_lane lane rest rest) (of_lane lane rest rest))) (eq-eqb lane lane refl) in
    let is = has lane in
    omega (arith, here, is)

pub left-more : (left after : ℕ → List LineReply) (lane : ℕ) (reply : LineReply) (rest : List ℕ) → HasLeft left (lane ∷ rest) → ((k : ℕ) → left k ≡ of_lane k (lane ∷ []) (reply ∷ []) ++ after k) → HasLeft after rest
left-more left after lane reply rest has is = λ k.
    let same = ap length (is k) in
    let all = has k in
    by (lane == k) k same all
  where
    by : (t : Bool) (k : ℕ) → length (left k) ≡ length (cond t (reply ∷ []) [] ++ after k) → length (left k) ≡ length (cond t (lane ∷ of_lane k rest rest) (of_lane k rest rest)) → length (after k) ≡ length (of_lane k rest rest)
    by true k same all = omega (arith, same, all)
    by false k same all = sym same ∙ all

pub placed-more : (all left after : ℕ → List LineReply) (lanes : List ℕ) (placed : List LineReply) (lane : ℕ) (reply : LineReply) → length placed ≡ length lanes → HasPlaced all left lanes placed → ((k : ℕ) → left k ≡ of_lane k (lane ∷ []) (reply ∷ []) ++ after k) → HasPlaced all after (lanes ++ lane ∷ []) (placed ++ reply ∷ [])
placed-more all left after lanes placed lane reply each has is = λ k.
    has k
    ∙ ap (λ l. of_lane k lanes placed ++ l) (is k)
    ∙ sym (append_assoc (of_lane k lanes placed) (of_lane k (lane ∷ []) (reply ∷ [])) (after k))
    ∙ ap (λ l. l ++ after k) (sym (of_lane-append k lanes (lane ∷ []) placed (reply ∷ []) each))

pub none-left : (items : List LineReply) → length items ≡ 0 → items ≡ []
none-left [] is = refl
none-left (x ∷ xs) is = absurd (omega (arith, is))

pub placed-all : (all left : ℕ → List LineReply) (lanes : List ℕ) (placed : List LineReply) → HasLeft left [] → HasPlaced all left lanes placed → (k : ℕ) → of_lane k lanes placed ≡ all k
placed-all all left lanes placed has is k =
    sym (is k ∙ ap (λ l. of_lane k lanes placed ++ l) (none-left (left k) (has k)) ∙ append-nil (of_lane k lanes placed))

-- ---- one more line of a script

pub script-push : (done old new script : List ScriptLine) (line : ScriptLine) → done ++ old ≡ script → old ≡ line ∷ new → (done ++ line ∷ []) ++ new ≡ script
script-push done old new script line split taken =
    append_assoc done (line ∷ []) new ∙ ap (λ (x : List ScriptLine). done ++ x) (sym taken) ∙ split

-- a line of a script has a lane
pub have-lane : (done old new script : List ScriptLine) (line : ScriptLine) → HaveLanes script → done ++ old ≡ script → old ≡ line ∷ new → line.lane < 8
have-lane done old new script line have split taken =
    at done (subst HaveLanes (sym split ∙ ap (λ (x : List ScriptLine). done ++ x) taken) have)
  where
    at : (done : List ScriptLine) → HaveLanes (done ++ line ∷ new) → line.lane < 8
    at [] have = have.0
    at (first ∷ done) have = at done have.1

pub lanes-push : (script : List ScriptLine) (line : ScriptLine) → lanes_of (script ++ line ∷ []) ≡ lanes_of script ++ line.lane ∷ []
lanes-push [] line = refl
lanes-push (first ∷ script) line = ap (λ l. first.lane ∷ l) (lanes-push script line)

pub lines-push : (k : ℕ) (script : List ScriptLine) (line : ScriptLine) → lane_lines k (script ++ line ∷ []) ≡ lane_lines k script ++ of_lane k (line.lane ∷ []) (line.line ∷ [])
lines-push k [] line = refl
lines-push k (first ∷ script) line =
    let rest = lines-push k script line in
    elim (first.lane == k) as (λ t. cond t (first.line ∷ lane_lines k (script ++ line ∷ [])) (lane_lines k (script ++ line ∷ [])) ≡ cond t (first.line ∷ lane_lines k script) (lane_lines k script) ++ of_lane k (line.lane ∷ []) (line.line ∷ [])) [
      | true ↦ ap (λ l. first.line ∷ l) rest
      | false ↦ rest
    ]
