-- Lemmas on what was seen of a walk: more with each body; and the checkpoints, each of which is at its place among the bodies.
use Rattle.std.specs.Prelude.{◌≡◌, ◌⊎◌, ℕ, ◌+◌, List, [], ◌∷◌, ◌++◌, slice_get, Some}
use Rattle.std.proofs.Common.{refl, sym, ◌∙◌, ap, subst, inl, inr, append_assoc}
use Rattle.std.proofs.lemmas.List.{append-nil}
use Rattle.btr_log.specs.Extents.{need}
use Rattle.btr_hist.specs.declared.entry.Entry.{Entry}
use Rattle.btr_roll.specs.Roll.{roll_bytes}
use Rattle.btr_engine.specs.Body.{Prefix, with_extent, with_checkpoint, LeadTo, RootRule}
use Rattle.btr_open.specs.Content.{HasCheckpoint}
use Rattle.btr_open.specs.Reached.{Reached, with_entry, passed}
use Rattle.btr_open.proofs.ListLemmas.{push-at}
use Rattle.btr_open.proofs.UniqueLemmas.{has-checkpoint}
use Rattle.btr_open.specs.Seen.{Mark, Seen, with_seen, with_mark, EntryRule, LeadOnBy}

-- What was seen before is the beginning of what was seen after.
pub record SeesMore (seen all : Seen) : Type 0 where
  pub entries : List Entry
  pub are : seen.entries ++ entries ≡ all.entries
  pub roots : List ℕ
  pub root_are : seen.roots ++ roots ≡ all.roots

module _ (May : EntryRule) where
  -- What was seen before stays seen.
  pub sees-more : (log : Reached) (seen : Seen) (bodies : List (List ℕ)) (after : Reached) (all : Seen) → LeadOnBy May log seen bodies after all → SeesMore seen all
  sees-more log seen [] after all leads = record {
    entries = [];
    are = append-nil seen.entries ∙ ap (λ (s : Seen). s.entries) leads.1;
    roots = [];
    root_are = append-nil seen.roots ∙ ap (λ (s : Seen). s.roots) leads.1;
  }
  sees-more log seen (body ∷ bodies) after all leads = elim leads [
    | inl x ↦
        let rest = sees-more (with_entry log x.0 x.1 x.2 body) (with_seen seen x.0 x.1) bodies after all x.5 in
        record {
          entries = x.0 ∷ rest.entries;
          are = sym (append_assoc seen.entries (x.0 ∷ []) rest.entries) ∙ rest.are;
          roots = x.1 ∷ rest.roots;
          root_are = sym (append_assoc seen.roots (x.1 ∷ []) rest.roots) ∙ rest.root_are;
        }
    | inr x ↦
        let rest = sees-more (passed log body) (with_mark seen log.gate (log.gate + need body)) bodies after all x.1 in
        record { entries = rest.entries; are = rest.are; roots = rest.roots; root_are = rest.root_are }
  ]

-- ---- the checkpoints

-- The gate after extents with these bodies.
abbrev pub gate_after : ℕ → List (List ℕ) → ℕ
gate_after gate [] = gate
gate_after gate (body ∷ bodies) = gate_after (gate + need body) bodies

-- One of the bodies, the first of which is after the gate, is that of this checkpoint.
pub record IsMarkIn (gate : ℕ) (bodies : List (List ℕ)) (m : Mark) : Type 0 where
  pub before : List (List ℕ)
  pub body : List ℕ
  pub after : List (List ℕ)
  pub parts : bodies ≡ before ++ body ∷ after
  pub at : m.gate ≡ gate_after gate before
  pub next : m.next ≡ m.gate + need body
  pub least : ℕ
  pub number : ℕ
  pub contents : ℕ → List ℕ
  pub has : HasCheckpoint least number contents body

in-rest : (gate : ℕ) (body : List ℕ) (bodies : List (List ℕ)) (m : Mark) → IsMarkIn (gate + need body) bodies m → IsMarkIn gate (body ∷ bodies) m
in-rest gate body bodies m is = record {
  before = body ∷ is.before;
  body = is.body;
  after = is.after;
  parts = ap (λ l. body ∷ l) is.parts;
  at = is.at;
  next = is.next;
  least = is.least;
  number = is.number;
  contents = is.contents;
  has = is.has;
}

-- A checkpoint that was seen was seen before, or is one of the bodies.
pub mark-in : (May : EntryRule) (log : Reached) (seen : Seen) (bodies : List (List ℕ)) (after : Reached) (all : Seen) → LeadOnBy May log seen bodies after all → (k : ℕ) (m : Mark) → slice_get all.marks k ≡ Some m → (slice_get seen.marks k ≡ Some m) ⊎ IsMarkIn log.gate bodies m
mark-in May log seen [] after all leads k m at =
    inl (ap (λ (s : Seen). slice_get s.marks k) leads.1 ∙ at)
mark-in May log seen (body ∷ bodies) after all leads k m at = elim leads [
  | inl x ↦
      elim (mark-in May (with_entry log x.0 x.1 x.2 body) (with_seen seen x.0 x.1) bodies after all x.5 k m at) [
        | inl old ↦ inl old
        | inr new ↦ inr (in-rest log.gate body bodies m new)
      ]
  | inr x ↦
      let here : Mark = record { gate = log.gate; next = log.gate + need body } in
      elim (mark-in May (passed log body) (with_mark seen log.gate (log.gate + need body)) bodies after all x.1 k m at) [
        | inl old ↦ elim (push-at seen.marks here k m old) [
          | inl older ↦ inl older
          | inr last ↦ inr (record {
            before = [];
            body = body;
            after = bodies;
            parts = refl;
            at = ap (λ (n : Mark). n.gate) (sym last.1);
            next = subst (λ (n : Mark). n.next ≡ n.gate + need body) last.1 refl;
            least = log.least;
            number = log.entries;
            contents = λ format. roll_bytes format log.roll;
            has = has-checkpoint log body x.0;
          })
        ]
        | inr new ↦ inr (in-rest log.gate body bodies m new)
      ]
]

-- The gate after bodies that lead to a prefix.
pub leads-gate : (Rule : RootRule) (before : Prefix) (bodies : List (List ℕ)) (after : Prefix) → LeadTo Rule before bodies after → after.gate ≡ gate_after before.gate bodies
leads-gate Rule before [] after leads = ap (λ (p : Prefix). p.gate) (sym leads)
leads-gate Rule before (body ∷ bodies) after leads = elim leads [
  | inl x ↦ leads-gate Rule (with_extent before x.0 x.1 x.2 body) bodies after x.5
  | inr x ↦ leads-gate Rule (with_checkpoint before body) bodies after x.1
]
