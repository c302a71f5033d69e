-- Why an offer is not accepted.
use Rattle.std.specs.Prelude.{◌≡◌, ℕ, ◌^◌, nat_le, List, [], ◌∷◌, Option, Some, None, if◌then◌else◌, Result, Err, IfErr}
use Rattle.std.specs.Option.{option_map, option_or}
use Rattle.btr_base.specs.declared.point.Point.{Point}
use Rattle.btr_feed.specs.declared.feed.FeedFault.{FeedFault}
use Rattle.btr_feed.specs.declared.feed.FeedFault.TheVariants as feeds
use Rattle.btr_feed.specs.Feed.{FeedValue, insert_fault}
use Rattle.btr_hall.specs.declared.group_answers.OfferFault.{OfferFault}
use Rattle.btr_hall.specs.declared.group_answers.OfferFault.TheVariants as faults

-- What is said of an offer whose points the open batch does not accept.
abbrev pub said_of_feed : FeedFault → OfferFault
said_of_feed (feeds.OutOfDomain time) = faults.OutOfDomain time
said_of_feed (feeds.TooMany count) = faults.TooMany count
said_of_feed feeds.Want = faults.Want

-- There are no points.
abbrev pub no_empty_offer : List Point → Option OfferFault
no_empty_offer [] = Some faults.Empty
no_empty_offer (p ∷ ps) = None

-- As many tickets were given as a group gives.
abbrev pub all_given : ℕ → Option OfferFault
all_given given = if nat_le (2 ^ 60) given then Some faults.Spent else None

-- Why an offer is not accepted, if the open batch is this one and so many tickets were given. No points have no time outside the domain,
-- and are not too many, so that it shows nothing in which order those are tested.
abbrev pub offer_fault : FeedValue → ℕ → List Point → Option OfferFault
offer_fault f given points =
    option_or (option_map said_of_feed (insert_fault f points)) (option_or (no_empty_offer points) (all_given given))

-- The fault of an offer is this one. If there is none, it is out of memory.
abbrev pub IsOfferFault : Option OfferFault → OfferFault → Type 0
IsOfferFault (Some fault) said = said ≡ fault
IsOfferFault None said = said ≡ faults.Want

-- The offer fails with exactly this fault. If there is none, it fails only because it is out of memory.
abbrev pub OfferFails : {A : Type 0} → Option OfferFault → Result A OfferFault → Type 0
OfferFails (Some fault) result = result ≡ Err fault
OfferFails None result = IfErr result (λ e. e ≡ faults.Want)
