-- What is known of a legal log when it was read whole: each of its pages is stored in its block and stands rightly, and the root of each entry has
-- the page of a root of its stream.
use Rattle.std.specs.Prelude.{◌≡◌, ℕ, ◌+◌, ◌<◌, ◌≤◌, List, [], ◌∷◌, ◌++◌, length, take, get_or, slice_get, Some}
use Rattle.std.proofs.Common.{sym, ◌∙◌, subst, inl, inr, arith}
use Rattle.std.proofs.lemmas.List.{take_at, take-append-le, get_or_append_left, get_or_push}
use Rattle.std.proofs.lemmas.Option.{slice_get_within}
use Rattle.btr_disk.specs.Bytes.{Image}
use Rattle.btr_log.specs.declared.head.Head.{Head}
use Rattle.btr_log.specs.Extents.{need, IsExtent, Extents}
use Rattle.btr_super.specs.declared.superblock.Super.{Super}
use Rattle.btr_node.specs.declared.page.NodePage.{NodePage}
use Rattle.btr_tree.specs.PageNodes.{Pages}
use Rattle.btr_pages.specs.Pages.{HasRootPage, IsPageAt}
use Rattle.btr_pages.proofs.KnownLemmas.{pages-below}
use Rattle.btr_hist.specs.declared.entry.Entry.{Entry}
use Rattle.btr_hist.specs.declared.entry.Entry.TheVariants.{Create, Define, Commit, Distillate, Retire}
use Rattle.btr_hist.specs.History.{latest}
use Rattle.btr_hist.specs.Legal.{Follows}
use Rattle.btr_hist.proofs.HistoryLemmas.{legal-follows}
use Rattle.btr_engine.specs.Body.{first_page}
use Rattle.btr_streams.specs.Rolling.{roll_of}
use Rattle.btr_open.specs.Reached.{Reached, beginning, with_entry, pages_with, passed}
use Rattle.btr_open.specs.RootTest.{MayLead}
use Rattle.btr_open.specs.Below.{StandBelow, IsStoredPage}
use Rattle.btr_open.specs.Walk.{IsNextBody, IsWalk}
use Rattle.btr_open.specs.Seen.{Seen, nothing_seen, with_seen, with_mark, LeadOnBy, KeepsRule, first_reading}
use Rattle.btr_open.proofs.ListLemmas.{push-at}
use Rattle.btr_open.proofs.HeldPages.{AreBelow, page-low, if-each, if-at, stand-extent, stand-passed}
use Rattle.btr_open.proofs.HeldRolls.{next-version}
use Rattle.btr_open.proofs.WalkLemmas.{HaveMore}
use Rattle.btr_verify.specs.Trees.{IsStoredAt, AreStoredAt}
use Rattle.btr_check.specs.Rule.{MayStand}
use Rattle.btr_check.proofs.LegalStands.{prefix_of, Agrees, next-body, next-agrees, mark-agrees, begins}
use Rattle.btr_check.proofs.MeetLemmas.{whole-walk}

-- ---- the root of an entry

-- The root of an entry that makes a version is 0, or has the page of a root of the version. An entry that makes no version has root 0.
abbrev pub HasOwnRoot : Pages → List Entry → Entry → ℕ → Type 0
HasOwnRoot pages before (Create id) root = root ≡ 0
HasOwnRoot pages before (Define id spec) root = root ≡ 0
HasOwnRoot pages before (Retire stream least) root = root ≡ 0
HasOwnRoot pages before (Commit stream cut added) root = 0 < root → HasRootPage pages stream (latest before stream + 1) root
HasOwnRoot pages before (Distillate stream cut added reads) root = 0 < root → HasRootPage pages stream (latest before stream + 1) root

-- A root that may be that of an entry, by the streams before it.
own-root : (pages : Pages) (before : List Entry) (roots : List ℕ) (e : Entry) (root : ℕ) → Follows before → MayLead pages (roll_of before roots) e root → HasOwnRoot pages before e root
own-root pages before roots (Create id) root follows may = may
own-root pages before roots (Define id spec) root follows may = may
own-root pages before roots (Retire stream least) root follows may = may
own-root pages before roots (Commit stream cut added) root follows may = λ some. elim may [
  | inl none ↦ absurd (omega (arith, none.0, some))
  | inr has ↦ subst (λ v. HasRootPage pages stream v root) (next-version before roots follows stream) has
]
own-root pages before roots (Distillate stream cut added reads) root follows may = λ some. elim may [
  | inl none ↦ absurd (omega (arith, none.0, some))
  | inr has ↦ subst (λ v. HasRootPage pages stream v root) (next-version before roots follows stream) has
]

root-page-more : (pages others : Pages) (stream version root : ℕ) → HaveMore pages others → HasRootPage pages stream version root → HasRootPage others stream version root
root-page-more pages others stream version root more has =
    record { page = has.page; is = more root has.page has.is; fits = has.fits }

-- It has its page among more pages too.
own-root-more : (pages others : Pages) (before : List Entry) (e : Entry) (root : ℕ) → HaveMore pages others → HasOwnRoot pages before e root → HasOwnRoot others before e root
own-root-more pages others before (Create id) root more own = own
own-root-more pages others before (Define id spec) root more own = own
own-root-more pages others before (Retire stream least) root more own = own
own-root-more pages others before (Commit stream cut added) root more own = λ some.
    root-page-more pages others stream (latest before stream + 1) root more (own some)
own-root-more pages others before (Distillate stream cut added reads) root more own = λ some.
    root-page-more pages others stream (latest before stream + 1) root more (own some)

-- Each entry has its own root.
abbrev pub HaveOwnRoots : Pages → List Entry → List ℕ → Type 0
HaveOwnRoots pages h roots =
    (n : ℕ) (e : Entry) → slice_get h n ≡ Some e → HasOwnRoot pages (take n h) e (get_or roots n 0)

-- With one entry more.
own-push : (pages others : Pages) (h : List Entry) (roots : List ℕ) (e : Entry) (root : ℕ) → length roots ≡ length h → HaveMore pages others → HaveOwnRoots pages h roots → HasOwnRoot others h e root → HaveOwnRoots others (h ++ e ∷ []) (roots ++ root ∷ [])
own-push pages others h roots e root rooted more each own n f at = elim (push-at h e n f at) [
  | inl old ↦
      let low = slice_get_within h n f old in
      let firsts : take n (h ++ e ∷ []) ≡ take n h = take-append-le n h (e ∷ []) (omega (arith, low)) in
      let its : get_or (roots ++ root ∷ []) n 0 ≡ get_or roots n 0 = get_or_append_left roots (root ∷ []) 0 n (omega (arith, low, rooted)) in
      subst {A = List Entry × ℕ} (λ p. HasOwnRoot others p.0 f p.1) (λ i. (sym firsts i, sym its i)) (own-root-more pages others (take n h) f (get_or roots n 0) more (each n f old))
  | inr last ↦
      let firsts : take n (h ++ e ∷ []) ≡ h = take_at h (e ∷ []) n (sym last.0) in
      let its : get_or (roots ++ root ∷ []) n 0 ≡ root = get_or_push roots root 0 n (omega (arith, last.0, rooted)) in
      subst {A = List Entry × Entry × ℕ} (λ p. HasOwnRoot others p.0 p.1 p.2) (λ i. (sym firsts i, last.1 i, sym its i)) own
]

-- ---- along the log

-- What was seen agrees with what is before the gate, whose pages stand rightly on the device, and each entry has its own root.
record IsRead (image : Image) (log : Reached) (seen : Seen) : Type 0 where
  agrees : Agrees log seen
  stand : StandBelow image log.gate log.pages
  own : HaveOwnRoots log.pages seen.entries seen.roots

module _ (image : Image) where
  next-read : (log : Reached) (seen : Seen) (e : Entry) (root : ℕ) (pages : List NodePage) (body : List ℕ) (head : Head) → IsRead image log seen → IsNextBody log e root pages body → MayStand seen.entries e root → IsExtent image log.gate body head → IsRead image (with_entry log e root pages body) (with_seen seen e root)
  next-read log seen e root pages body head read is may extent =
      let agrees = read.agrees in
      let after = pages_with log e pages in
      let more : HaveMore log.pages after = λ block page at. let low = page-low log.gate log.pages block page agrees.below at in pages-below log.pages (first_page log.gate e) block pages (omega (arith, low)) ∙ at in
      let may_lead : MayLead after (roll_of seen.entries seen.roots) e root = subst (λ r. MayLead after r e root) agrees.roll is.may_lead in
      record {
        agrees = next-agrees log seen agrees e root pages body is may;
        stand = (stand-extent image (prefix_of log seen) e root pages body head agrees.some (read.stand, agrees.below) (next-body log seen agrees e root pages body is) extent).0;
        own = own-push log.pages after seen.entries seen.roots e root agrees.rooted more read.own (own-root after seen.entries seen.roots e root (legal-follows seen.entries agrees.legal) may_lead);
      }

  mark-read : (log : Reached) (seen : Seen) (body : List ℕ) → IsRead image log seen → IsRead image (passed log body) (with_mark seen log.gate (log.gate + need body))
  mark-read log seen body read = record {
    agrees = mark-agrees log seen read.agrees body;
    stand = (stand-passed image log.gate (log.gate + need body) log.pages (omega arith) (read.stand, read.agrees.below)).0;
    own = read.own;
  }

  read-on : (log : Reached) (seen : Seen) (bodies : List (List ℕ)) (after : Reached) (all : Seen) → IsRead image log seen → LeadOnBy MayStand log seen bodies after all → Extents image log.gate bodies after.gate → IsRead image after all
  read-on log seen [] after all read leads extents =
      subst {A = Reached × Seen} (λ p. IsRead image p.0 p.1) (λ i. (leads.0 i, leads.1 i)) read
  read-on log seen (body ∷ bodies) after all read leads extents = elim leads [
    | inl x ↦
        read-on (with_entry log x.0 x.1 x.2 body) (with_seen seen x.0 x.1) bodies after all (next-read log seen x.0 x.1 x.2 body extents.0.0 read x.3 x.4 extents.0.1) x.5 extents.1
    | inr x ↦
        read-on (passed log body) (with_mark seen log.gate (log.gate + need body)) bodies after all (mark-read log seen body read) x.1 extents.1
  ]

-- ---- the whole log

-- Each page is stored in its block, where it stands rightly.
stored-at : (image : Image) (gate : ℕ) (pages : Pages) → StandBelow image gate pages → AreBelow gate pages → AreStoredAt image pages
stored-at image gate pages stand below block = if-each (pages block) (IsStoredAt image pages block) (λ page at.
    let low = page-low gate pages block page below at in
    let is = if-at (pages block) (λ p. (1 ≤ block) × IsStoredPage image block p × IsPageAt pages block p) page at (stand block low) in
    record { some = is.0; fits = is.1.fits; stored = is.1.stored; stands = is.2 })

-- What is known of a log that was read whole: its entries may follow one another, its pages are stored, and each entry has its own root.
pub record IsReadWhole (image : Image) (log : Reached) (seen : Seen) : Type 0 where
  pub follows : Follows seen.entries
  pub rooted : length seen.roots ≡ length seen.entries
  pub stored : AreStoredAt image log.pages
  pub own : HaveOwnRoots log.pages seen.entries seen.roots

pub read-whole : (image : Image) (s : Super) (log : Reached) (seen : Seen) (walk : IsWalk image (first_reading s) log) → KeepsRule MayStand walk seen → IsReadWhole image log seen
read-whole image s log seen walk keeps =
    let whole = whole-walk MayStand image s log seen walk keeps in
    let first : IsRead image beginning nothing_seen = record { agrees = begins; stand = λ block low. tt; own = λ n e at. absurd (cc) } in
    let read = read-on image beginning nothing_seen whole.bodies log seen first whole.leads whole.extents in
    record {
      follows = legal-follows seen.entries read.agrees.legal;
      rooted = read.agrees.rooted;
      stored = stored-at image log.gate log.pages read.stand read.agrees.below;
      own = read.own;
    }
