pub mod TimersFins
pub mod Endings
pub mod Gathering
