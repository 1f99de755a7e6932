pub mod AtEditionOne
pub mod EnoughPlaces
