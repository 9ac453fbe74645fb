mod LineLemmas
mod DigitLemmas
mod ValueLemmas
mod WalkLemmas
mod PlaceLemmas
mod ValidLemmas
