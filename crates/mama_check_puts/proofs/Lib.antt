pub mod Lists
pub mod TimerSteps
pub mod BridgeSteps
pub mod SenderSteps
pub mod TellerSteps
