pub mod Laws
pub mod Refusals
pub mod RoundTrips
