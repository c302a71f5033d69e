-- Lemmas on frames: the bytes determine the first frame, and all frames.
use Rattle.std.proofs.Common.{◌≡◌, ℕ, ◌+◌, ◌<◌, ◌≤◌, ◌^◌, List, [], ◌∷◌, ◌++◌, length, refl, sym, ap, ◌∙◌, arith, append_assoc, length-append, take, drop}
use Rattle.std.specs.Int.{w64}
use Rattle.std.specs.List.{flat_map, AllByRecursion}
use Rattle.std.proofs.lemmas.List.{append-nil, take-append-drop, length-take}
use Rattle.std.proofs.lemmas.List.Concat.{flat_map-cons}
use Rattle.btr_entry.specs.Grammar.{number}
use Rattle.btr_entry.proofs.NumberLemmas.{same_parts, number_once, wide64}
use Rattle.btr_follow.specs.declared.frame.Frame.{Frame}
use Rattle.btr_follow.specs.Frames.{frame_mark, frame_bytes, FrameFits, BeginsWithNoFrame, AreFramesOf}

-- The bytes of a frame, with more bytes after them.
pub frame_parts : (f : Frame) (rest : List ℕ) → frame_bytes f ++ rest ≡ frame_mark ++ (number w64 f.number ++ (number w64 (length f.bytes) ++ (f.bytes ++ rest)))
frame_parts f rest =
    append_assoc frame_mark (number w64 f.number ++ (number w64 (length f.bytes) ++ f.bytes)) rest
    ∙ ap (λ (l : List ℕ). frame_mark ++ l) (append_assoc (number w64 f.number) (number w64 (length f.bytes) ++ f.bytes) rest
    ∙ ap (λ (l : List ℕ). number w64 f.number ++ l) (append_assoc (number w64 (length f.bytes)) f.bytes rest))

pub frame_long : (f : Frame) → length (frame_bytes f) ≡ 20 + length f.bytes
frame_long f =
    let one = length-append frame_mark (number w64 f.number ++ (number w64 (length f.bytes) ++ f.bytes)) in
    let two = length-append (number w64 f.number) (number w64 (length f.bytes) ++ f.bytes) in
    let three = length-append (number w64 (length f.bytes)) f.bytes in
    let mark : length frame_mark ≡ 4 = refl in
    omega (arith, one, two, three, mark, wide64.len f.number, wide64.len (length f.bytes))

-- What follows the mark.
pub after_mark : (bytes mark rest : List ℕ) (f : Frame) (more : List ℕ) → bytes ≡ mark ++ rest → length mark ≡ 4 → bytes ≡ frame_bytes f ++ more → (mark ≡ frame_mark) × (rest ≡ number w64 f.number ++ (number w64 (length f.bytes) ++ (f.bytes ++ more)))
after_mark bytes mark rest f more is long same =
    same_parts mark frame_mark rest (number w64 f.number ++ (number w64 (length f.bytes) ++ (f.bytes ++ more))) long (sym is ∙ same ∙ frame_parts f more)

-- What follows the first four bytes.
pub after_four : (bytes mark rest : List ℕ) → 4 ≤ length bytes → mark ≡ take 4 bytes → rest ≡ drop 4 bytes → (f : Frame) (more : List ℕ) → bytes ≡ frame_bytes f ++ more → rest ≡ number w64 f.number ++ (number w64 (length f.bytes) ++ (f.bytes ++ more))
after_four bytes mark rest long front back f more same =
    let is : bytes ≡ mark ++ rest = sym (take-append-drop 4 bytes) ∙ ap (λ (l : List ℕ). l ++ drop 4 bytes) (sym front) ∙ ap (λ (l : List ℕ). mark ++ l) (sym back) in
    let four : length mark ≡ 4 = ap (length {A = ℕ}) front ∙ omega (arith, length-take 4 bytes) in
    (after_mark bytes mark rest f more is four same).1

-- Eight bytes of a number are not shorter than eight.
pub number_long : (n : ℕ) (more : List ℕ) → length (number w64 n ++ more) ≡ 8 + length more
number_long n more = omega (arith, length-append (number w64 n) more, wide64.len n)

-- What follows a number.
pub after_number : (bytes : List ℕ) (m n : ℕ) (x y : List ℕ) → m < 2 ^ 64 → n < 2 ^ 64 → bytes ≡ number w64 m ++ x → bytes ≡ number w64 n ++ y → (m ≡ n) × (x ≡ y)
after_number bytes m n x y m_fits n_fits first second = number_once w64 (2 ^ 64) wide64 m n x y m_fits n_fits (sym first ∙ second)

-- The bytes determine the first frame, and the bytes after it.
pub frame_once : (f g : Frame) (x y : List ℕ) → FrameFits f → FrameFits g → frame_bytes f ++ x ≡ frame_bytes g ++ y → (f ≡ g) × (x ≡ y)
frame_once f g x y h k same =
    let one = after_mark (frame_bytes f ++ x) frame_mark (number w64 f.number ++ (number w64 (length f.bytes) ++ (f.bytes ++ x))) g y (frame_parts f x) refl same in
    let two = number_once w64 (2 ^ 64) wide64 f.number g.number (number w64 (length f.bytes) ++ (f.bytes ++ x)) (number w64 (length g.bytes) ++ (g.bytes ++ y)) h.numbered k.numbered one.1 in
    let three = number_once w64 (2 ^ 64) wide64 (length f.bytes) (length g.bytes) (f.bytes ++ x) (g.bytes ++ y) h.short k.short two.1 in
    let four = same_parts f.bytes g.bytes x y three.0 three.1 in
    (λ i. record { number = two.0 i; bytes = four.0 i }, four.1)

-- The bytes of a list of frames, one of them first.
frames_parts : (f : Frame) (fs : List Frame) (rest : List ℕ) → flat_map frame_bytes (f ∷ fs) ++ rest ≡ frame_bytes f ++ (flat_map frame_bytes fs ++ rest)
frames_parts f fs rest =
    ap (λ (l : List ℕ). l ++ rest) (flat_map-cons frame_bytes f fs) ∙ append_assoc (frame_bytes f) (flat_map frame_bytes fs) rest

frames_once : (fs gs : List Frame) (x y : List ℕ) → AllByRecursion FrameFits fs → AllByRecursion FrameFits gs → BeginsWithNoFrame x → BeginsWithNoFrame y → flat_map frame_bytes fs ++ x ≡ flat_map frame_bytes gs ++ y → (fs ≡ gs) × (x ≡ y)
frames_once [] [] x y h k no_x no_y same = (refl, same)
frames_once [] (g ∷ gs) x y h k no_x no_y same =
    absurd (no_x g (flat_map frame_bytes gs ++ y) k.0 (same ∙ frames_parts g gs y))
frames_once (f ∷ fs) [] x y h k no_x no_y same =
    absurd (no_y f (flat_map frame_bytes fs ++ x) h.0 (sym same ∙ frames_parts f fs x))
frames_once (f ∷ fs) (g ∷ gs) x y h k no_x no_y same =
    let first = frame_once f g (flat_map frame_bytes fs ++ x) (flat_map frame_bytes gs ++ y) h.0 k.0 (sym (frames_parts f fs x) ∙ same ∙ frames_parts g gs y) in
    let more = frames_once fs gs x y h.1 k.1 no_x no_y first.1 in
    (λ i. first.0 i ∷ more.0 i, more.1)

pub reading_once : (bytes : List ℕ) (fs gs : List Frame) (x y : List ℕ) → AreFramesOf bytes fs x → AreFramesOf bytes gs y → (fs ≡ gs) × (x ≡ y)
reading_once bytes fs gs x y h k = frames_once fs gs x y h.fit k.fit h.no_more k.no_more (sym h.parts ∙ k.parts)

-- Nothing begins with no frame.
pub nothing_begins : BeginsWithNoFrame []
nothing_begins f more fits same =
    omega (arith, ap (length {A = ℕ}) same, length-append (frame_bytes f) more, frame_long f)

pub reads_back : (fs : List Frame) → AllByRecursion FrameFits fs → AreFramesOf (flat_map frame_bytes fs) fs []
reads_back fs fit = record { fit = fit; parts = sym (append-nil (flat_map frame_bytes fs)); no_more = nothing_begins }
