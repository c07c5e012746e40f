pub mod BoxLaws
pub mod CrowdLaws
pub mod StripesLaws
