pub mod ClassCode
pub mod Made
pub mod Open
