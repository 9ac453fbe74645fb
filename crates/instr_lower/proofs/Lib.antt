pub mod Results
pub mod Small
pub mod Within
