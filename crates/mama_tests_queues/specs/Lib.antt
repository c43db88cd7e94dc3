pub mod Orderer
