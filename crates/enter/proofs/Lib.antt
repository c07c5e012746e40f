pub mod EnterLaws
pub mod RoomLaws
