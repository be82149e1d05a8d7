pub mod TreeFault
