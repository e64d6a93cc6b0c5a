pub mod Answers
pub mod RightAnswers
pub mod AnswerForms
pub mod AnswerReading
pub mod ScriptText
pub mod AnswersText
pub mod ScriptNames
pub mod Events
