-- Lemmas on rows by their streams, which grow row by row.
use Rattle.std.proofs.Common.{◌≡◌, ◌≢◌, ℕ, zero, suc, ◌<◌, Bool, true, false, not, cond, ◌||◌, ◌⊎◌, eqb, get_or, List, [], ◌∷◌, ◌++◌, length, map, Option, Some, None, inl, inr, refl, sym, ap, ◌∙◌, arith}
use Rattle.std.specs.List.{filter, list_any, slice_get, slice_set}
use Rattle.std.specs.Option.{option_map}
use Rattle.std.specs.Ordering.{nat_cmp, is_eq}
use Rattle.std.proofs.lemmas.Bool.Decides.{nat_tests}
use Rattle.std.proofs.lemmas.Bool.{eqb-true, eqb-false, eq-eqb, ne_eqb, or_parts, or_cases, false_from_ne_true, cond-true, cond-false, cases_eq}
use Rattle.std.proofs.lemmas.List.{append-nil, map-append, length-map}
use Rattle.std.proofs.lemmas.List.Elements.{filter-append}
use Rattle.std.specs.Prelude.{Result, Ok, Err, OnOk}
use Rattle.std.specs.declared.alloc.AllocError.{AllocError}
use Rattle.btr_rows.specs.declared.row.Row.{Row}
use Rattle.btr_rows.specs.Streams.{StreamValue, ids_of, numbered_point, stream_of, by_stream, with_point}
use Rattle.btr_rows.specs.Places.{stream_ids, ArePlaces}
use Rattle.btr_rows.proofs.SmallLemmas.{some_equal}

eqb_other_way : (a b : ℕ) → eqb a b ≡ false → eqb b a ≡ false
eqb_other_way a b h = ne_eqb b a (λ e. eqb-false a b h (sym e))

-- An id is in a list of ids.
abbrev is_in : ℕ → List ℕ → Bool
is_in id ids = list_any (λ i. eqb i id) ids

-- The ids of a list other than one.
abbrev others : ℕ → List ℕ → List ℕ
others x ids = filter (λ id. not (eqb id x)) ids

in-others : (id x : ℕ) (ids : List ℕ) → eqb id x ≡ false → is_in id (others x ids) ≡ is_in id ids
in-others id x [] ne = refl
in-others id x (i ∷ ids) ne =
    elim (eqb i x) as (λ t. eqb i x ≡ t → list_any (λ j. eqb j id) (cond (not t) (i ∷ others x ids) (others x ids)) ≡ (eqb i id || is_in id ids)) [
      | true ↦ λ e. rw (ne_eqb i id (λ s. eqb-false id x ne (sym s ∙ eqb-true i x e))) (in-others id x ids ne)
      | false ↦ λ e. ap (λ t. eqb i id || t) (in-others id x ids ne)
    ] refl

ids-gone : (x r : ℕ) (ids : List ℕ) (b : Bool) → eqb r x ≡ true → others x (cond b ids (ids ++ r ∷ [])) ≡ others x ids
ids-gone x r ids true e = refl
ids-gone x r ids false e = filter-append (λ id. not (eqb id x)) ids (r ∷ []) ∙ rw e (append-nil (others x ids))

ids-kept : (x r : ℕ) (ids : List ℕ) (b : Bool) → eqb r x ≡ false
    → x ∷ others x (cond b ids (ids ++ r ∷ [])) ≡ cond b (x ∷ others x ids) (x ∷ (others x ids ++ r ∷ []))
ids-kept x r ids true e = refl
ids-kept x r ids false e = ap (λ l. x ∷ l) (filter-append (λ id. not (eqb id x)) ids (r ∷ []) ∙ rw e refl)

ids-step : (x r : ℕ) (ids : List ℕ)
    → x ∷ others x (cond (is_in r ids) ids (ids ++ r ∷ [])) ≡ cond (eqb x r || is_in r (others x ids)) (x ∷ others x ids) (x ∷ (others x ids ++ r ∷ []))
ids-step x r ids =
    elim (eqb x r) as (λ t. eqb x r ≡ t → x ∷ others x (cond (is_in r ids) ids (ids ++ r ∷ [])) ≡ cond (t || is_in r (others x ids)) (x ∷ others x ids) (x ∷ (others x ids ++ r ∷ []))) [
      | true ↦ λ e. ap (λ l. x ∷ l) (ids-gone x r ids (is_in r ids) (eq-eqb r x (sym (eqb-true x r e))))
      | false ↦ λ e. rw (in-others r x ids (eqb_other_way x r e)) (ids-kept x r ids (is_in r ids) (eqb_other_way x r e))
    ] refl

-- One more row brings its id, if that is new.
ids-push : (rows : List (ℕ × Row)) (row : ℕ × Row)
    → ids_of (rows ++ row ∷ []) ≡ cond (is_in row.1.id (ids_of rows)) (ids_of rows) (ids_of rows ++ row.1.id ∷ [])
unfolding ids_of
ids-push [] row = refl
ids-push (x ∷ rows) row = ap (λ l. x.1.id ∷ others x.1.id l) (ids-push rows row) ∙ ids-step x.1.id row.1.id (ids_of rows)

-- An id that is not there has no row.
no-rows : (rows : List (ℕ × Row)) (id : ℕ) → is_in id (ids_of rows) ≡ false → filter (λ r. eqb r.1.id id) rows ≡ []
unfolding ids_of
no-rows [] id h = refl
no-rows (x ∷ rows) id h =
    let p = or_parts (eqb x.1.id id) (is_in id (others x.1.id (ids_of rows))) h in
    rw p.0 (no-rows rows id (sym (in-others id x.1.id (ids_of rows) (eqb_other_way x.1.id id p.0)) ∙ p.1))

in-at : (ids : List ℕ) (place id : ℕ) → slice_get ids place ≡ Some id → is_in id ids ≡ true
in-at [] place id h = cc h
in-at (i ∷ ids) zero id h = rw (eq-eqb i id (some_equal h)) refl
in-at (i ∷ ids) (suc place) id h = rw (in-at ids place id h) (or-true (eqb i id))
  where
    or-true : (b : Bool) → (b || true) ≡ true
    or-true true = refl
    or-true false = refl

at-in : (ids : List ℕ) (id : ℕ) → is_in id ids ≡ true → (place : ℕ) × (slice_get ids place ≡ Some id)
at-in [] id h = cc h
at-in (i ∷ ids) id h = by (or_cases (eqb i id) (is_in id ids) h) (at-in ids id)
  where
    by : (eqb i id ≡ true) ⊎ (is_in id ids ≡ true) → (is_in id ids ≡ true → (place : ℕ) × (slice_get ids place ≡ Some id))
        → (place : ℕ) × (slice_get (i ∷ ids) place ≡ Some id)
    by (inl e) more = (0, ap Some (eqb-true i id e))
    by (inr e) more = let m = more e in (suc m.0, m.1)

-- The stream of a row gets its point, and another stream stays.
same-stream : (rows : List (ℕ × Row)) (row : ℕ × Row) (id : ℕ) → eqb row.1.id id ≡ true
    → stream_of (rows ++ row ∷ []) id ≡ with_point (stream_of rows id) (numbered_point row)
same-stream rows row id e =
    ap (λ ps. record { id = id; points = ps }) (ap (map numbered_point) (filter-append (λ r. eqb r.1.id id) rows (row ∷ []) ∙ rw e refl)
    ∙ map-append numbered_point (filter (λ r. eqb r.1.id id) rows) (row ∷ []))

other-stream : (rows : List (ℕ × Row)) (row : ℕ × Row) (id : ℕ) → eqb row.1.id id ≡ false
    → stream_of (rows ++ row ∷ []) id ≡ stream_of rows id
other-stream rows row id e =
    ap (λ ps. record { id = id; points = ps }) (ap (map numbered_point) (filter-append (λ r. eqb r.1.id id) rows (row ∷ []) ∙ rw e (append-nil (filter (λ r. eqb r.1.id id) rows))))

map-same : {X Y : Type 0} (f g : X → Y) (xs : List X) → ((place : ℕ) (x : X) → slice_get xs place ≡ Some x → f x ≡ g x) → map f xs ≡ map g xs
map-same f g [] h = refl
map-same f g (x ∷ xs) h = rw (h 0 x refl, map-same f g xs (λ place y at. h (suc place) y at)) refl

map-set-at : {X Y : Type 0} (f g : X → Y) (xs : List X) (place : ℕ) (x : X) → slice_get xs place ≡ Some x
    → ((other : ℕ) (y : X) → slice_get xs other ≡ Some y → other ≢ place → f y ≡ g y) → map f xs ≡ slice_set (map g xs) place (f x)
map-set-at f g [] place x at h = refl
map-set-at f g (y ∷ xs) zero x at h = rw (some_equal at, map-same f g xs (λ other z e. h (suc other) z e (λ n. cc n))) refl
map-set-at f g (y ∷ xs) (suc place) x at h =
    rw (h 0 y refl (λ n. cc n), map-set-at f g xs place x at (λ other z e ne. h (suc other) z e (λ n. ne (cc n)))) refl

get-map : {X Y : Type 0} (f : X → Y) (xs : List X) (place : ℕ) → slice_get (map f xs) place ≡ option_map f (slice_get xs place)
get-map f [] place = refl
get-map f (x ∷ xs) zero = refl
get-map f (x ∷ xs) (suc place) = get-map f xs place

pub get-below : {X : Type 0} (xs : List X) (place : ℕ) (x : X) → slice_get xs place ≡ Some x → place < length xs
get-below [] place x h = cc h
get-below (y ∷ xs) zero x h = omega arith
get-below (y ∷ xs) (suc place) x h = omega (arith, get-below xs place x h)

-- The streams of rows have their ids.
ids-of-streams : (rows : List (ℕ × Row)) (ids : List ℕ) → stream_ids (map (stream_of rows) ids) ≡ ids
ids-of-streams rows [] = refl
ids-of-streams rows (id ∷ ids) = ap (λ l. id ∷ l) (ids-of-streams rows ids)

module _ (rows : List (ℕ × Row)) (row : ℕ × Row) (find : ℕ → Option ℕ) (places : ArePlaces find (stream_ids (by_stream rows))) where
  ids-are : stream_ids (by_stream rows) ≡ ids_of rows
  ids-are = ids-of-streams rows (ids_of rows)

  place-of : (id place : ℕ) → find id ≡ Some place → slice_get (ids_of rows) place ≡ Some id
  place-of id place h = rw ids-are at (places id place).0 h

  found-at : (id place : ℕ) → slice_get (ids_of rows) place ≡ Some id → find id ≡ Some place
  found-at id place h = (places id place).1 (rw ids-are h)

  -- A row of a stream that is there.
  pub known-stream : (place : ℕ) (s : StreamValue) → find row.1.id ≡ Some place → slice_get (by_stream rows) place ≡ Some s
      → slice_set (by_stream rows) place (with_point s (numbered_point row)) ≡ by_stream (rows ++ row ∷ [])
  known-stream place s found at =
      let here = place-of row.1.id place found in
      let same : s ≡ stream_of rows row.1.id = some_equal (sym at ∙ get-map (stream_of rows) (ids_of rows) place ∙ ap (option_map (stream_of rows)) here) in
      let ids : ids_of (rows ++ row ∷ []) ≡ ids_of rows = ids-push rows row ∙ cond-true _ _ _ (in-at (ids_of rows) place row.1.id here) in
      let new : stream_of (rows ++ row ∷ []) row.1.id ≡ with_point s (numbered_point row) = same-stream rows row row.1.id (eq-eqb row.1.id row.1.id refl) ∙ ap (λ t. with_point t (numbered_point row)) (sym same) in
      sym (ap (map (stream_of (rows ++ row ∷ []))) ids
      ∙ map-set-at (stream_of (rows ++ row ∷ [])) (stream_of rows) (ids_of rows) place row.1.id here
      (λ other id e ne. other-stream rows row id (ne_eqb row.1.id id (λ q. ne (some_equal (sym (found-at id other e) ∙ ap find (sym q) ∙ found)))))
      ∙ ap (slice_set (by_stream rows) place) new)

  -- The first row of a stream.
  pub new-stream : find row.1.id ≡ None
      → by_stream rows ++ (record { id = row.1.id; points = numbered_point row ∷ [] }) ∷ [] ≡ by_stream (rows ++ row ∷ [])
  new-stream lost =
      let out : is_in row.1.id (ids_of rows) ≡ false = false_from_ne_true _ (λ t. let at = at-in (ids_of rows) row.1.id t in cc (sym (found-at row.1.id at.0 at.1) ∙ lost)) in
      let ids : ids_of (rows ++ row ∷ []) ≡ ids_of rows ++ row.1.id ∷ [] = ids-push rows row ∙ cond-false _ _ _ out in
      let new : stream_of (rows ++ row ∷ []) row.1.id ≡ record { id = row.1.id; points = numbered_point row ∷ [] } = same-stream rows row row.1.id (eq-eqb row.1.id row.1.id refl)
      ∙ ap (λ l. record { id = row.1.id; points = map numbered_point l ++ numbered_point row ∷ [] }) (no-rows rows row.1.id out) in
      let old : map (stream_of (rows ++ row ∷ [])) (ids_of rows) ≡ by_stream rows = map-same (stream_of (rows ++ row ∷ [])) (stream_of rows) (ids_of rows)
      (λ place id e. other-stream rows row id (ne_eqb row.1.id id (λ q. cc (sym (found-at id place e) ∙ ap find (sym q) ∙ lost)))) in
      sym (ap (map (stream_of (rows ++ row ∷ []))) ids ∙ map-append (stream_of (rows ++ row ∷ [])) (ids_of rows) (row.1.id ∷ []) ∙ rw (old, new) refl)

-- A stream with the same id in the place of another leaves all ids as they are.
pub ids-set : (streams : List StreamValue) (place : ℕ) (s t : StreamValue) → slice_get streams place ≡ Some s → t.id ≡ s.id
    → stream_ids (slice_set streams place t) ≡ stream_ids streams
ids-set [] place s t at e = refl
ids-set (u ∷ streams) zero s t at e = ap (λ i. i ∷ stream_ids streams) (e ∙ ap (λ v. v.id) (sym (some_equal at)))
ids-set (u ∷ streams) (suc place) s t at e = ap (λ l. u.id ∷ l) (ids-set streams place s t at e)

get-push : (ids : List ℕ) (new place id : ℕ) → slice_get (ids ++ new ∷ []) place ≡ Some id → (slice_get ids place ≡ Some id) ⊎ ((place ≡ length ids) × (new ≡ id))
get-push [] new zero id h = inr (refl, some_equal h)
get-push [] new (suc place) id h = cc h
get-push (i ∷ ids) new zero id h = inl h
get-push (i ∷ ids) new (suc place) id h = by (get-push ids new place id h)
  where
    by : (slice_get ids place ≡ Some id) ⊎ ((place ≡ length ids) × (new ≡ id)) → (slice_get ids place ≡ Some id) ⊎ ((suc place ≡ suc (length ids)) × (new ≡ id))
    by (inl e) = inl e
    by (inr e) = inr (ap suc e.0, e.1)

get-old : (ids : List ℕ) (new place id : ℕ) → slice_get ids place ≡ Some id → slice_get (ids ++ new ∷ []) place ≡ Some id
get-old [] new place id h = cc h
get-old (i ∷ ids) new zero id h = h
get-old (i ∷ ids) new (suc place) id h = get-old ids new place id h

get-new : (ids : List ℕ) (new : ℕ) → slice_get (ids ++ new ∷ []) (length ids) ≡ Some new
get-new [] new = refl
get-new (i ∷ ids) new = get-new ids new

-- The places with one more stream.
pub places-push : (find more : ℕ → Option ℕ) (ids : List ℕ) (new : ℕ) → ArePlaces find ids → find new ≡ None → more new ≡ Some (length ids)
    → ((id : ℕ) → eqb new id ≡ false → more id ≡ find id) → ArePlaces more (ids ++ new ∷ [])
places-push find more ids new places lost here kept id place = (one-way (cases_eq new id), λ h. other-way h (get-push ids new place id h))
  where
    one-way : (new ≡ id) ⊎ (new ≡ id → ⊥) → more id ≡ Some place → slice_get (ids ++ new ∷ []) place ≡ Some id
    one-way (inl e) h =
        let n : length ids ≡ place = some_equal (sym here ∙ ap more e ∙ h) in
        sym (ap (slice_get (ids ++ new ∷ [])) n) ∙ get-new ids new ∙ ap Some e
    one-way (inr e) h = get-old ids new place id ((places id place).0 (sym (kept id (ne_eqb new id e)) ∙ h))

    other-way : slice_get (ids ++ new ∷ []) place ≡ Some id → (slice_get ids place ≡ Some id) ⊎ ((place ≡ length ids) × (new ≡ id)) → more id ≡ Some place
    other-way h (inl e) =
        let was = (places id place).1 e in
        kept id (ne_eqb new id (λ s. cc (sym was ∙ ap find (sym s) ∙ lost))) ∙ was
    other-way h (inr e) = ap more (sym e.1) ∙ here ∙ ap Some (sym e.0)

-- A place of an id is the place of a stream with this id.
pub stream-there : (streams : List StreamValue) (place id : ℕ) → slice_get (stream_ids streams) place ≡ Some id
    → (s : StreamValue) × (slice_get streams place ≡ Some s)
stream-there [] place id h = cc h
stream-there (s ∷ streams) zero id h = (s, refl)
stream-there (s ∷ streams) (suc place) id h = stream-there streams place id h

pub place-below : (streams : List StreamValue) (place id : ℕ) → slice_get (stream_ids streams) place ≡ Some id → place < length streams
place-below streams place id h = let s = stream-there streams place id h in get-below streams place s.0 s.1

pub get_or-get : {X : Type 0} (xs : List X) (place : ℕ) (x d : X) → slice_get xs place ≡ Some x → get_or xs place d ≡ x
get_or-get [] place x d h = cc h
get_or-get (y ∷ xs) zero x d h = some_equal h
get_or-get (y ∷ xs) (suc place) x d h = get_or-get xs place x d h

-- Two ids that differ are not equal by their order.
pub cmp-apart : (a b : ℕ) → eqb a b ≡ false → is_eq (nat_cmp a b) ≡ false
cmp-apart a b h = grind (arith, nat_tests)

-- A push to the stream of a row that is there.
pub known-push : (rows : List (ℕ × Row)) (row : ℕ × Row) (find : ℕ → Option ℕ) (streams : List StreamValue) → streams ≡ by_stream rows → ArePlaces find (stream_ids streams)
    → (place : ℕ) (s : StreamValue) → find row.1.id ≡ Some place → slice_get streams place ≡ Some s
    → (new old : StreamValue) → old ≡ s → (r : Result (Unit {0}) AllocError) → OnOk r (new ≡ with_point old (numbered_point row))
    → OnOk r (slice_set streams place new ≡ by_stream (rows ++ row ∷ []))
known-push rows row find streams are places place s found at new old same (Err e) h = tt
known-push rows row find streams are places place s found at new old same (Ok x) h =
    rw (h, same, are) (known-stream rows row find (rw are at places) place s found (rw are at at))

-- The places with one more stream, by the order of ids.
pub places-with : (find more : ℕ → Option ℕ) (streams pushed : List StreamValue) (s : StreamValue) (id place : ℕ) → ArePlaces find (stream_ids streams) → find id ≡ None
    → more id ≡ Some place → ((q : ℕ) → is_eq (nat_cmp id q) ≡ false → more q ≡ find q) → place ≡ length streams → s.id ≡ id → pushed ≡ streams ++ s ∷ [] → ArePlaces more (stream_ids pushed)
places-with find more streams pushed s id place places lost here kept at same are =
    let ids : stream_ids pushed ≡ stream_ids streams ++ id ∷ [] = rw (are, map-append (λ (t : StreamValue). t.id) streams (s ∷ []), same) refl in
    let end : place ≡ length (stream_ids streams) = at ∙ sym (length-map streams (λ (t : StreamValue). t.id)) in
    rw ids (places-push find more (stream_ids streams) id places lost (here ∙ ap Some end) (λ q apart. kept q (cmp-apart id q apart)))

-- A stream that a row begins, after the others.
pub new-push : (rows : List (ℕ × Row)) (row : ℕ × Row) (find : ℕ → Option ℕ) (streams pushed : List StreamValue) (s : StreamValue) → streams ≡ by_stream rows → ArePlaces find (stream_ids streams)
    → find row.1.id ≡ None → s ≡ record { id = row.1.id; points = numbered_point row ∷ [] } → pushed ≡ streams ++ s ∷ [] → pushed ≡ by_stream (rows ++ row ∷ [])
new-push rows row find streams pushed s are places lost same is =
    rw (is, same, are) (new-stream rows row find (rw are at places) lost)
