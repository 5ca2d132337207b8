pub mod CallLaws
mod Inside
mod Reaching
mod ChainPlaces
mod Settling
mod ReceiverLaws
mod ReceiverNumbers
mod Items
pub mod ReachLaws
pub mod Threads
