pub mod BridgeRows
pub mod TimersRows
pub mod PutterPorts
pub mod CameBy
