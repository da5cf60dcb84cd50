-- Words about texts, templates, which forms have answers, and which files there are.
pub mod Texts
pub mod Templates
pub mod Forms
pub mod Paths
