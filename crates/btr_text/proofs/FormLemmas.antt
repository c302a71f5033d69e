-- Lemmas on the points of a line and the lines of an input, which are read one after another.
use Rattle.std.proofs.Common.{◌≡◌, ℕ, List, [], ◌∷◌, ◌++◌, Option, Some, None, map, refl, sym, ap, ◌∙◌, append_assoc}
use Rattle.std.specs.Option.{option_map, option_and_then, option_to_list}
use Rattle.std.specs.List.{filter_map, cons_option}
use Rattle.std.proofs.lemmas.List.{map-append}
use Rattle.std.proofs.lemmas.List.Elements.{filter_map-append}
use Rattle.btr_base.specs.declared.point.Point.{Point}
use Rattle.btr_text.specs.Form.{point_of, points_of}

alone : {X : Type 0} (o : Option X) → cons_option o [] ≡ option_to_list o
alone None = refl
alone (Some x) = refl

one_ahead : (done : List Point) (p : Point) (o : Option (List Point)) →
    option_map (λ ps. (done ++ p ∷ []) ++ ps) o ≡ option_map (λ ps. done ++ ps) (option_map (λ ps. p ∷ ps) o)
one_ahead done p None = refl
one_ahead done p (Some ps) = ap Some (append_assoc done (p ∷ []) ps)

-- One more point is read.
pub points_of-more : (done new : List Point) (ws after more : List (List ℕ)) (t v : List ℕ) (p : Point) →
    ws ≡ t ∷ after → after ≡ v ∷ more → Some p ≡ point_of t v → new ≡ done ++ p ∷ [] →
    option_map (λ ps. new ++ ps) (points_of more) ≡ option_map (λ ps. done ++ ps) (points_of ws)
points_of-more done new ws after more t v p e f g k =
    rw (k, e, f) (one_ahead done p (points_of more) ∙ ap (λ o. option_map (λ ps. done ++ ps) (option_and_then (λ q. option_map (λ ps. q ∷ ps) (points_of more)) o)) g)

-- One more line is read.
pub filter_map-one_more : {A B X : Type 0} (h : A → Option X) (f : B → A) (done new : List X) (bs : List B) (b : B) →
    done ≡ filter_map h (map f bs) → new ≡ done ++ option_to_list (h (f b)) → new ≡ filter_map h (map f (bs ++ b ∷ []))
filter_map-one_more h f done new bs b e g =
    g ∙ ap (λ xs. xs ++ option_to_list (h (f b))) e ∙ sym (rw (map-append, filter_map-append) (ap (λ xs. filter_map h (map f bs) ++ xs) (alone (h (f b)))))

pub map-twice : {A B X : Type 0} (f : A → X) (g : B → A) (bs : List B) → map f (map g bs) ≡ map (λ b. f (g b)) bs
map-twice f g [] = refl
map-twice f g (b ∷ bs) = ap (λ xs. f (g b) ∷ xs) (map-twice f g bs)
