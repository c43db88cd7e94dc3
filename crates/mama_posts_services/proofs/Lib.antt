pub mod BridgeLemmas
pub mod ByesLemmas
pub mod PortsLemmas
pub mod PublisherLemmas
pub mod ServiceLemmas
pub mod TimersLemmas
