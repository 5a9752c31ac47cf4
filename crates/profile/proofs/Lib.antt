pub mod Swept
pub mod Uses
pub mod Counted
pub mod RisingTimes
pub mod OrderLaws
