-- A list is set and carried down, by request and by the operator.
pub mod CarriedDown
pub mod Relisted
pub mod ValidDown
pub mod SentEntries
pub mod SameHeld
pub mod SetHeld
pub mod SetMeaning
pub mod SetSpread
pub mod HandedDown
pub mod SetWell
pub mod SettingCalls
pub mod SetEffect
pub mod SetRequest
pub mod ResetWay
pub mod SetReset
pub mod ResetClosed
