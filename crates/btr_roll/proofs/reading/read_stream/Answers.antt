use Rattle.std.proofs.Common.{◌≡◌, ◌++◌, Bool, subst, sym, arith}
use Rattle.std.specs.Prelude.{is_some}
use Rattle.std.specs.List.{flat_map}
use Rattle.btr_roll.specs.Roll.{has_firsts, first_bytes, version_bytes, FirstFits, VersionFits}
use Rattle.btr_roll.specs.Items.{AreItems}
use Rattle.btr_roll.proofs.RollLemmas.{format_from_stream, first_from_stream, versions_from_stream}
use Rattle.btr_roll.proofs.reading.read_stream.Goals as goal

pub returns-then-kind_format-format-clause-none : goal.returns-then-kind_format-format-clause-none
returns-then-kind_format-format-clause-none c s rest h same =
    let x = c.in-Some in
    omega (arith, c.if-kind_format-format.true, c.kind_format.ensures, format_from_stream c.args.format c.args.bytes.now x.id x.entry x.spec x.count x.rest.now s rest x.ensures.some h same)

pub returns-in_default-read_first-clause-none : goal.returns-in_default-read_first-clause-none
returns-in_default-read_first-clause-none c s rest h same =
    let x = c.in-Some in
    let after = flat_map version_bytes s.versions ++ rest in
    let first = first_from_stream c.args.format c.args.bytes.now x.id x.entry x.spec x.count x.rest.now s rest x.ensures.some h same in
    let has : c.has_firsts.result ≡ has_firsts c.args.format = c.has_firsts.ensures in
    c.in_default-read_first.ensures.none s.first after (subst (λ (b : Bool). FirstFits b x.count s.first) (sym has) first.fits)
    (subst (λ (b : Bool). x.rest.now ≡ first_bytes b s.first ++ after) (sym has) first.follow)

pub returns-in_default-2-clause-none : goal.returns-in_default-2-clause-none
returns-in_default-2-clause-none c s rest h same =
    let x = c.in-Some in
    let y = c.in-Some-read_first in
    let has : c.has_firsts.result ≡ has_firsts c.args.format = c.has_firsts.ensures in
    let fits = subst (λ (b : Bool). FirstFits b x.count y.first) has y.ensures.fits in
    let is = subst (λ (b : Bool). x.rest.now ≡ first_bytes b y.first ++ y.rest.now) has y.ensures.some in
    let items = versions_from_stream c.args.format c.args.bytes.now x.id x.entry x.spec x.count x.rest.now y.first y.rest.now s rest x.ensures.some fits is h same in
    let output : c.is_some.result ≡ is_some x.spec = c.is_some.ensures in
    (rw c.in_default-2.is at c.in_ok-versions.ensures.none) s.versions rest (subst (λ (o : Bool). AreItems version_bytes (VersionFits o) x.count y.rest.now s.versions rest) (sym output) items)
