-- Lines, and how long they are.
pub mod TextLaws
-- The weaver's answer as text, and the listing of what was loaded.
pub mod ListingLaws
-- The document's listing, by computation.
pub mod ListingCases
