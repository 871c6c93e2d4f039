pub mod Image
pub mod SiteCheck
pub mod Operations
pub mod Worked
pub mod JoinedChecks
