pub mod Joint
pub mod JointDeciding
pub mod JointLaws
pub mod Making
pub mod Parts
pub mod States
