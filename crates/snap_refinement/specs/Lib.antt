pub mod OneSwitch
pub mod Laws
pub mod InOrder
pub mod ChangingSwitch
pub mod InForce
pub mod ChangeLaws
pub mod SwitchRuns
