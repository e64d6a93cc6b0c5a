pub mod AnnouncementView
pub mod TranscriptView
pub mod Notifying
pub mod ProcessingView
pub mod PendingView
pub mod AnnouncingView
pub mod NotedView
pub mod Receiving
