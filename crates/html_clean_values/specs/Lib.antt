pub mod Prefixes
pub mod Replaced
pub mod SchemeTests
pub mod Srcsets
pub mod Urls
pub mod ValueLaws
pub mod Words
