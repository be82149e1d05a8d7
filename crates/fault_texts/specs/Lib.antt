pub mod FaultText
pub mod CFaultText
pub mod AsmFaultText
pub mod ImageFaultText
