pub mod Confirmed
pub mod EndToEnd
pub mod HintTexts
pub mod Laws
pub mod Rows
pub mod Headline
pub mod HeadlineLaws
