pub mod PortLemmas
