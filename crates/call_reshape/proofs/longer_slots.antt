pub mod TurnsAsPlanned
